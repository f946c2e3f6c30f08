-- A link that fails by what comes, or serves, is up.
use Rattle.pair_rules.proofs.Basics.{◌≡◌, Bool, true, false, refl, sym}
use Rattle.pair_rules.proofs.Definitions.{Period, Alignment, Down, NotAligned, Aligned, Proving, AlignedReady, InService, Action, Input, action_at, is_down, is_in_service}
use Rattle.link.specs.declared.action.Action.TheVariants as act

-- one that is down ignores all
down-ignores : (period : Period) (a : Alignment) (input : Input) (x : Action) → is_down a ≡ true → action_at period a input ≡ x → x ≡ act.Ignored
down-ignores period Down input x e f = sym f
down-ignores period NotAligned input x e f = absurd cc
down-ignores period Aligned input x e f = absurd cc
down-ignores period (Proving ready) input x e f = absurd cc
down-ignores period AlignedReady input x e f = absurd cc
down-ignores period InService input x e f = absurd cc

by-not-down : (b : Bool) → (b ≡ true → false ≡ true) → b ≡ false
by-not-down true f = sym (f refl)
by-not-down false f = refl

-- so a link that fails by it is up
pub fails-up : (period : Period) (a : Alignment) (input : Input) → action_at period a input ≡ act.Fail → is_down a ≡ false
fails-up period a input e = by-not-down (is_down a) (λ d. (let no : act.Fail ≡ act.Ignored = down-ignores period a input act.Fail d e in absurd cc))

pub serving-up : (a : Alignment) → is_in_service a ≡ true → is_down a ≡ false
serving-up Down e = absurd cc
serving-up NotAligned e = refl
serving-up Aligned e = refl
serving-up (Proving ready) e = refl
serving-up AlignedReady e = refl
serving-up InService e = refl
