use Rattle.std.proofs.Common.{SFits, w64, rules}
use Rattle.std.proofs.lemmas.Int.{to_z-of_z}
use Rattle.settings.proofs.Basics.{ap, ◌∙◌, own_point}
use Rattle.settings.proofs.Telling.{all_told}
use Rattle.settings.proofs.faults.tell_all.Goals as goal

pub returns : goal.returns
returns c =
    let fits : SFits w64 c.args.draft.now.own = search rules in
    all_told c.args.told.now.items _ _ _ _ c.args.draft.now c.own_point.result
    (c.own_point.ensures ∙ ap own_point (to_z-of_z _ _ fits)) c.in_ok-tell_scalars.ensures c.in_ok-tell_lists.ensures c.in_ok-tell_timers.ensures c.in_ok-tell_arrays.ensures
