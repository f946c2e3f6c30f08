-- A name is known by its key.
use Rattle.timers.proofs.Basics.{◌≡◌, sym, ap, ◌∙◌, TimerName, key_of, name_of_key, name-key}

pub one_name : (x y : TimerName) → key_of x ≡ key_of y → x ≡ y
one_name x y e = sym (name-key x) ∙ ap name_of_key e ∙ name-key y
