use Rattle.std.proofs.Common.{◌++◌, List, ℕ, take, sym, ap, ◌∙◌}
use Rattle.std.proofs.lemmas.List.{append-nil}
use Rattle.sctp_bundling.specs.Replies.{chunk_of}
use Rattle.sctp_bundling.proofs.Rows.{row-one, row-none}
use Rattle.sctp_bundling.proofs.packets.write_last.Goals as goal

pub returns-in-Some-clause-text : goal.returns-in-Some-clause-text
returns-in-Some-clause-text c =
    rw c.in-Some.is (c.write.ensures.text ∙ ap (λ (t : List ℕ). take c.args.at c.args.out.now ++ t) (sym (row-one (chunk_of c.in-Some.chunk.now))))

pub returns-in-None-clause-text : goal.returns-in-None-clause-text
returns-in-None-clause-text c =
    rw c.in-None.is (sym (ap (λ (t : List ℕ). take c.args.at c.args.out.now ++ t) row-none ∙ append-nil (take c.args.at c.args.out.now)))
