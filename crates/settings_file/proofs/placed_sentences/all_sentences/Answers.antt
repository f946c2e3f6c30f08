use Rattle.settings_file.proofs.Basics.{ℕ, List, ◌++◌, ◌∙◌, ap, string_bytes}
use Rattle.settings_file.specs.PlacedSentences.{IsSentence}
use Rattle.settings_file.proofs.Placed.{next_text, all_texts}
use Rattle.settings_file.proofs.placed_sentences.all_sentences.Goals as goal

pub loop-i-preserved : goal.loop-i-preserved
loop-i-preserved c =
    next_text (IsSentence c.args.file.now c.args.text.now) c.args.faults.now c.loop-i.i _ _ _ _ c.loop-i-test.true
    c.in_ok-placed.ensures (c.in_ok-push_str.ensures.bytes ∙ ap (λ (words : List ℕ). string_bytes c.loop-i.sentences ++ words) c.as_str.ensures.value) c.loop-i.invariant

pub returns : goal.returns
returns c = all_texts (IsSentence c.args.file.now c.args.text.now) c.args.faults.now c.loop-i.i _ c.loop-i-test.false c.loop-i.invariant
