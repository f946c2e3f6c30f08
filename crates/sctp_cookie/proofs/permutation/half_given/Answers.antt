use Rattle.std.proofs.Common.{◌≡◌, ℕ, ◌+◌, ◌*◌, List, [], ◌∷◌, ◌++◌, take, get_or, append_assoc, refl, sym, ap, ◌∙◌}
use Rattle.std.specs.Prelude.{slice_index}
use Rattle.std.specs.Int.{w16, to_be_bytes}
use Rattle.sha2.specs.Sha256.{sha256}
use Rattle.sctp_cookie.specs.Tags.{half_given}
use Rattle.sctp_cookie.proofs.permutation.half_given.Goals as goal

-- the first two octets of a list are its own
first_two : (octets : List ℕ) → slice_index (take 2 octets) 0 * 256 + slice_index (take 2 octets) 1 ≡ get_or octets 0 0 * 256 + get_or octets 1 0
first_two [] = refl
first_two (a ∷ []) = refl
first_two (a ∷ b ∷ octets) = refl

pub returns : goal.returns
unfolding half_given
returns c =
    let fed = c.update-3.ensures _ (c.update-2.ensures _ (c.update.ensures [] c.new-hasher.ensures)) in
    let digest = c.finalize.ensures _ fed in
    let whole = rw (append_assoc, c.to_be_bytes.ensures) at digest in
    c.from_be_bytes.ensures ∙ ap (λ (octets : List ℕ). get_or octets 0 0 * 256 + get_or octets 1 0) whole ∙ sym (first_two (sha256 (c.args.key.now ++ c.args.number ∷ to_be_bytes w16 c.args.half)))
