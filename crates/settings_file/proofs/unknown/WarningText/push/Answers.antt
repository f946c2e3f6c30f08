-- One more warning.
use Rattle.settings_file.proofs.Basics.{arith, refl, ◌≡◌, ◌≤◌, ◌++◌, ◌+◌, ◌∙◌, ℕ, List, [], ◌∷◌, ap, sym, append_assoc, append-nil, length-append, string_bytes, Result, Ok, Err, Ignored, warning, warnings_of, HasWarned, IsSoFar, GoesOn}
use Rattle.std.specs.Prelude.{OnOk, is_ok, if◌then◌else◌}
use Rattle.settings_file.specs.declared.unknown.WarningText.{WarningText}
use Rattle.settings_file.proofs.unknown.WarningText.push.Goals as goal

warnings-more : (file : List ℕ) (ignored : List Ignored) (i : Ignored)
    → warnings_of file (ignored ++ i ∷ []) ≡ warnings_of file ignored ++ warning file i
warnings-more file [] i = append-nil (warning file i)
warnings-more file (first ∷ more) i =
    ap (λ (text : List ℕ). warning file first ++ text) (warnings-more file more i)
    ∙ sym (append_assoc (warning file first) (warnings_of file more) (warning file i))

one-more : (file text text_new line : List ℕ) (count : ℕ) (i : Ignored) → line ≡ warning file i → text_new ≡ text ++ line
    → HasWarned file text count → HasWarned file text_new (count + 1)
one-more file text text_new line count i l t h = record {
  ignored = h.ignored ++ i ∷ [];
  many = length-append h.ignored (i ∷ []) ∙ ap (λ (n : ℕ). n + 1) h.many;
  is = t ∙ rw (l, h.is) (sym (warnings-more file h.ignored i));
}

-- a line was put after a text, or memory ran out
more-pushed : {X E : Type 0} (r : Result X E) (old new : WarningText) (line : List ℕ) (i : Ignored)
    → new.file.now ≡ old.file.now → new.count ≡ old.count + 1 → old.count + 1 ≤ 20 → line ≡ warning old.file.now i
    → string_bytes new.text ≡ (if is_ok r then string_bytes old.text ++ line else string_bytes old.text)
    → IsSoFar old → OnOk r (GoesOn old new)
more-pushed (Ok x) old new line i f n few l t h = record {
  same = f;
  is = record {
    few = rw n few;
    warned = rw (n, f) (one-more old.file.now (string_bytes old.text) (string_bytes new.text) line old.count i l t h.warned);
  };
}
more-pushed (Err e) old new line i f n few l t h = tt

pub returns : goal.returns
returns c = more-pushed c.push_str.result c.args.self.now _ c.args.line.now c.requires.line.0 refl refl
    (omega (arith, c.requires.room)) c.requires.line.1 c.push_str.ensures.bytes c.requires.so_far
