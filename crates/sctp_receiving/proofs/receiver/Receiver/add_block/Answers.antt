use Rattle.std.proofs.Common.{◌≤◌, ◌<◌, ◌-◌, ◌++◌, ◌∷◌, [], ◌∙◌, length, sym, ap, arith}
use Rattle.std.specs.Prelude.{◌&&◌, not, if◌then◌else◌}
use Rattle.std.proofs.lemmas.Bool.Decides.{nat_tests}
use Rattle.sctp_receiving.specs.declared.block.Block.{Block}
use Rattle.sctp_receiving.specs.Sack.{is_held_ahead, block_from}
use Rattle.sctp_receiving.proofs.Blocks.{not_added, no_place, added}
use Rattle.sctp_receiving.proofs.receiver.Receiver.add_block.Goals as goal

pub returns-then-not-begins_at : goal.returns-then-not-begins_at
returns-then-not-begins_at c =
    not_added (is_held_ahead c.args.self.now c.args.ahead && not c.args.is_before_held) c.args.blocks.now.items
    (block_from c.args.self.now c.args.ahead (256 - c.args.ahead) ∷ []) (sym c.begins_at.ensures ∙ c.if-not-begins_at.true)
    (omega (arith, c.is_full-is_full.ensures.fits))

pub returns-then-is_full : goal.returns-then-is_full
returns-then-is_full c =
    let test = sym c.is_full-is_full.ensures.value ∙ c.if-is_full.true in
    let full : 100 ≤ length c.args.blocks.now.items = grind (arith, nat_tests, test) in
    no_place c.args.blocks.now.items
    (if is_held_ahead c.args.self.now c.args.ahead && not c.args.is_before_held
    then block_from c.args.self.now c.args.ahead (256 - c.args.ahead) ∷ []
    else [])
    (omega (arith, c.is_full-is_full.ensures.fits)) full

pub returns : goal.returns
returns c =
    let test = sym c.is_full-is_full.ensures.value ∙ c.if-is_full.false in
    let fits : length c.args.blocks.now.items ≤ 100 = omega (arith, c.is_full-is_full.ensures.fits) in
    let room : length c.args.blocks.now.items < 100 = grind (arith, nat_tests, test, fits) in
    c.push.ensures.items
    ∙ ap (λ (block : Block). c.args.blocks.now.items ++ block ∷ []) c.block_from.ensures
    ∙ added (is_held_ahead c.args.self.now c.args.ahead && not c.args.is_before_held) c.args.blocks.now.items
    (block_from c.args.self.now c.args.ahead (256 - c.args.ahead)) (sym c.begins_at.ensures ∙ c.if-not-begins_at.false) room
