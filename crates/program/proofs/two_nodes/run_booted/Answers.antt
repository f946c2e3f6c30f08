use Rattle.program.proofs.Labs.{lab-ended, leaves-input, leaves-output}
use Rattle.program.proofs.two_nodes.run_booted.Goals as goal

pub returns : goal.returns
returns g c =
    let left = c.run_by-script.ensures.unchanged in
    lab-ended c.run_by-script.result _ _ _ _ _ _
    c.run_by-script.ensures.end
    (record {
      reads_made = c.run_by-script.ensures.bounded;
      reads_failed = c.run_by-script.ensures.reads;
      writes_failed = c.run_by-script.ensures.writes;
    })
    (leaves-input c.run_by-script.result _ _ _ _ _ _ left) (leaves-output c.run_by-script.result _ _ _ _ _ _ left)
    c.end_lab.ensures.memory c.end_lab.ensures.status c.end_lab.ensures.unwritten c.end_lab.ensures.explained
