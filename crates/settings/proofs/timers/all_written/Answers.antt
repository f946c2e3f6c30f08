-- What is written for each timer is read back from its 64 bits.
use Rattle.std.proofs.Common.{SFits, w64, refl, rules}
use Rattle.std.proofs.lemmas.Int.{to_z-of_z}
use Rattle.settings.proofs.timers.all_written.Goals as goal

pub returns : goal.returns
returns c =
    let l1 : SFits w64 c.args.timers.now.l1 = search rules in
    let l2 : SFits w64 c.args.timers.now.l2 = search rules in
    let l3 : SFits w64 c.args.timers.now.l3 = search rules in
    let l4 : SFits w64 c.args.timers.now.l4 = search rules in
    let l6 : SFits w64 c.args.timers.now.l6 = search rules in
    let l7 : SFits w64 c.args.timers.now.l7 = search rules in
    let t1 : SFits w64 c.args.timers.now.t1 = search rules in
    let t2 : SFits w64 c.args.timers.now.t2 = search rules in
    let t3 : SFits w64 c.args.timers.now.t3 = search rules in
    let t4 : SFits w64 c.args.timers.now.t4 = search rules in
    let t6 : SFits w64 c.args.timers.now.t6 = search rules in
    let t8 : SFits w64 c.args.timers.now.t8 = search rules in
    let t10 : SFits w64 c.args.timers.now.t10 = search rules in
    rw (
      c.of.ensures,
      c.of-2.ensures,
      c.of-3.ensures,
      c.of-4.ensures,
      c.of-5.ensures,
      c.of-6.ensures,
      c.of-7.ensures,
      c.of-8.ensures,
      c.of-9.ensures,
      c.of-10.ensures,
      c.of-11.ensures,
      c.of-12.ensures,
      c.of-13.ensures,
      to_z-of_z _ _ l1,
      to_z-of_z _ _ l2,
      to_z-of_z _ _ l3,
      to_z-of_z _ _ l4,
      to_z-of_z _ _ l6,
      to_z-of_z _ _ l7,
      to_z-of_z _ _ t1,
      to_z-of_z _ _ t2,
      to_z-of_z _ _ t3,
      to_z-of_z _ _ t4,
      to_z-of_z _ _ t6,
      to_z-of_z _ _ t8,
      to_z-of_z _ _ t10,
    ) refl
