-- Two names are one, or one comes before the other.
use Rattle.timers.proofs.Basics.{◌≡◌, ◌≢◌, true, false, refl, arith, nat_tests, TimerName, Key, key_of, is_key_before, is_before, is_same_key, is_same}
use Rattle.timers.proofs.Keys.{one_name}

same-key : (x y : Key) → is_same_key x y ≡ true → x ≡ y
same-key x y h =
    let k : x.kind ≡ y.kind = grind (arith, nat_tests) in
    let r : x.row ≡ y.row = grind (arith, nat_tests) in
    let c : x.column ≡ y.column = grind (arith, nat_tests) in
    λ i. record { kind = k i; row = r i; column = c i }

pub same_is : (x y : TimerName) → is_same x y ≡ true → x ≡ y
same_is x y h = one_name x y (same-key (key_of x) (key_of y) h)

same-itself : (x : Key) → is_same_key x x ≡ true
same-itself x = grind (arith, nat_tests)

pub is_itself : (x : TimerName) → is_same x x ≡ true
is_itself x = same-itself (key_of x)

pub other_is_not : (x y : TimerName) → x ≢ y → is_same x y ≡ false
other_is_not x y h =
    elim (is_same x y) as (λ b. is_same x y ≡ b → b ≡ false) [
      | true ↦ λ e. absurd (h (same_is x y e))
      | false ↦ λ e. refl
    ] refl

key-total : (x y : Key) → is_same_key x y ≡ false → is_key_before x y ≡ false → is_key_before y x ≡ true
key-total x y h k = grind (arith, nat_tests)

pub before-total : (x y : TimerName) → x ≢ y → is_before x y ≡ false → is_before y x ≡ true
before-total x y h k = key-total (key_of x) (key_of y) (other_is_not x y h) k
