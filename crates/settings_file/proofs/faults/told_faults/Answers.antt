use Rattle.settings_file.proofs.Basics.{[], ◌∷◌, map}
use Rattle.settings_file.specs.AllFaults.{checked_fault}
use Rattle.settings_file.specs.Following.{standing}
use Rattle.settings_file.specs.declared.serve.fault.ServeFault.TheVariants.{Settings}
use Rattle.settings_file.proofs.ToldAll.{three-told}
use Rattle.settings_file.proofs.faults.told_faults.Goals as goal

pub returns : goal.returns
unfolding standing
returns c =
    rw (c.in_ok-tell_served.ensures, c.in_ok-tell_checked.ensures, c.in_ok-tell_read.ensures, c.in_ok-told.ensures, c.hidden_by-hidden.ensures.names, c.hidden_by-hidden.ensures.routes)
    (three-told (c.args.first ∷ []) (map Settings c.args.reading.now) (map checked_fault (standing c.args.reading.now c.args.checked.now)) c.args.server.now)
