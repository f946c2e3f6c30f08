-- Texts of octets.
use Rattle.script.proofs.Basics.{◌≡◌, ℕ, ◌*◌, ◌%◌, ◌≤◌, List, length, Bool, true, false, [], refl, sym, arith, nat_eq, nat_le, ◌&&◌, IsTrue, ◌↔◌, Ok, Err, Result, IsOk, nat_tests, is_octets, octets_of}
use Rattle.std.specs.List.{AllPass, list_all}
use Rattle.std.proofs.lemmas.List.Sums.{AllPass-from_list_all, list_all-from_AllPass}
use Rattle.hex.specs.Hex.{is_hex_digit, decode_of, decode_sized}
use Rattle.hex.specs.declared.error.FromHexError.{FromHexError}
use Rattle.hex.proofs.HexLemmas.{IsOk-decode_sized, decode_sized-twice}
use Rattle.std.specs.Result.{result_unwrap_or}

-- a test that says what the test of each element says
pub tested : (p : ℕ → Bool) (xs : List ℕ) (b : Bool) → (IsTrue b ↔ AllPass p xs) → list_all p xs ≡ b
tested p xs true h = list_all-from_AllPass p xs (h.0 refl)
tested p xs false h = not_true (list_all p xs) (λ e. h.1 (AllPass-from_list_all p xs e))
  where
    not_true : (b : Bool) → (b ≡ true → false ≡ true) → b ≡ false
    not_true true h = sym (h refl)
    not_true false h = refl

pub octets_tested : (text : List ℕ) (b : Bool) → length text % 2 ≡ 0 → 2 ≤ length text → length text ≤ 8192
    → (IsTrue b ↔ AllPass is_hex_digit text) → b ≡ is_octets text
octets_tested text b even two most h = rw (tested is_hex_digit text b h) (grind (arith, nat_tests))

-- a test of four parts that holds: the last part holds
last_of_four : (a b c d : Bool) → (a && b && c && d) ≡ true → d ≡ true
last_of_four true true true d h = h
last_of_four true true false d h = cc h
last_of_four true false c d h = cc h
last_of_four false b c d h = cc h

-- the value of a result that is `Ok`
its_value : (r : Result (List ℕ) FromHexError) → IsOk r → r ≡ Ok (result_unwrap_or r [])
its_value (Ok bytes) h = refl
its_value (Err e) h = cc h

pub decoded : (text : List ℕ) (n : ℕ) → is_octets text ≡ true → length text ≡ 2 * n → decode_sized text n ≡ Ok (octets_of text)
decoded text n h e =
    let digits : AllPass is_hex_digit text = AllPass-from_list_all is_hex_digit text (last_of_four (nat_eq (length text % 2) 0) (nat_le 2 (length text)) (nat_le (length text) 8192) (list_all is_hex_digit text) h) in
    let ok : IsOk (decode_sized text n) = (IsOk-decode_sized text n).1 (e, digits) in
    let same = decode_sized-twice text n e in
    rw same (its_value (decode_of text) (rw same at ok))

pub ruleset octets_steps = (decoded)
