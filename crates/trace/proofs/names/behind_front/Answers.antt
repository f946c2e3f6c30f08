use Rattle.std.proofs.Common.{sym}
use Rattle.std.proofs.lemmas.Slice.Eq.{bytes_eq-Decides}
use Rattle.trace.proofs.Digits.{joined, begins_with}
use Rattle.trace.proofs.names.behind_front.Goals as goal

pub returns-then-eq-clause-value : goal.returns-then-eq-clause-value
returns-then-eq-clause-value c =
    let split = c.in_ok-begins.ensures.cases in
    let same = (bytes_eq-Decides c.in_ok-begins.begins.now c.args.front.now).0 (sym c.if-eq.ensures) in
    joined c.args.front.now c.args.text.now c.in_ok-begins.begins.now c.in_ok-begins.behind.now same (split.1) (split.2)

pub returns-else-eq-clause-found : goal.returns-else-eq-clause-found
returns-else-eq-clause-found c = λ behind e.
    let split = c.in_ok-begins.ensures.cases in
    let same = begins_with c.args.front.now c.args.text.now c.in_ok-begins.begins.now behind e (split.1) in
    let yes = (bytes_eq-Decides c.in_ok-begins.begins.now c.args.front.now).1 same in
    cc
