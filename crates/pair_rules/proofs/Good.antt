-- What holds of each of a list, and of what is in flight.
use Rattle.pair_rules.proofs.Basics.{zero, suc, subst, ◌≡◌, ◌<◌, ◌^◌, ℕ, true, false, List, [], ◌∷◌, ◌++◌, length, Some, Ok, arith, slice_get}
use Rattle.pair_rules.proofs.Definitions.{Message, is_management, service_indicator, dpc_of, opc_of, Configuration, destination_place, set_place, Label, FrameValue, StatusFrame, IsSayable, LinkStatus, read_management, Management, ExtendedChangeoverOrder, ExtendedChangeoverAcknowledgement, ChangebackDeclaration, ChangebackAcknowledgement, Link, is_down, entry_of, set_of, peer_of, management_to, link_with_code, whither_goes}
use Rattle.mtp3_codec.specs.declared.discrimination.Discrimination.TheVariants as whither
use Rattle.signalling_types.specs.Numbers.{previous_number}
use Rattle.pair_rules.proofs.World.{says_of, management_says, link_of_code}

-- ---- each of a list

abbrev pub Each : {A : Type 0} → (A → Type 0) → List A → Type 0
Each P [] = Unit {0}
Each P (x ∷ xs) = P x × Each P xs

pub each-behind : {A : Type 0} (P : A → Type 0) (xs ys : List A) → Each P xs → Each P ys → Each P (xs ++ ys)
each-behind P [] ys e f = f
each-behind P (x ∷ xs) ys e f = (e.0, each-behind P xs ys e.1 f)

pub each-get : {A : Type 0} (P : A → Type 0) (xs : List A) (i : ℕ) (x : A) → Each P xs → slice_get xs i ≡ Some x → P x
each-get P [] i x e f = absurd cc
each-get P (y ∷ xs) zero x e f = subst P (let same : y ≡ x = cc in same) e.0
each-get P (y ∷ xs) (suc i) x e f = each-get P xs i x e.1 f

-- ---- the number before another has 24 bits

pub previous-fits : (n : ℕ) → previous_number n < 2 ^ 24
previous-fits n = omega (arith)

-- ---- messages from one node to the other

-- a word about changeovers and changebacks
pub data IsWord (c : Configuration) : Management → Type 0 where
  orders : (link number : ℕ) → link < length c.links → IsWord c (ExtendedChangeoverOrder (entry_of c link).slc number)
  answers : (link number : ℕ) → link < length c.links → IsWord c (ExtendedChangeoverAcknowledgement (entry_of c link).slc number)
  declares : (slc code : ℕ) → slc < 16 → code < 256 → IsWord c (ChangebackDeclaration slc code)
  confirms : (slc code : ℕ) → IsWord c (ChangebackAcknowledgement slc code)

pub data IsSaid (c : Configuration) (m : Message) : Type 0 where
  is_user : is_management m ≡ false → IsSaid c m
  is_word : is_management m ≡ true → service_indicator m ≡ 0 → opc_of m ≡ c.own → (word : Management) → read_management m.sif ≡ Ok word → IsWord c word → IsSaid c m

-- a message that the node with settings c accepted or made, for the one with settings z
pub record IsBetween (c z : Configuration) (m : Message) : Type 0 where
  pub to : dpc_of m ≡ z.own
  pub label : Label
  pub here : whither_goes z m ≡ whither.Here label
  pub said : IsSaid c m

-- a link status in flight
pub data IsTelling : FrameValue → Type 0 where
  telling : (bsn fsn : ℕ) (status : LinkStatus) → IsSayable (StatusFrame bsn fsn status) → IsTelling (StatusFrame bsn fsn status)

-- ---- two settings that face each other

-- a word with a number and a code that can be written
pub data IsWritable : Management → Type 0 where
  order_fits : (slc number : ℕ) → number < 2 ^ 24 → IsWritable (ExtendedChangeoverOrder slc number)
  answer_fits : (slc number : ℕ) → number < 2 ^ 24 → IsWritable (ExtendedChangeoverAcknowledgement slc number)
  declaration_fits : (slc code : ℕ) → slc < 16 → code < 256 → IsWritable (ChangebackDeclaration slc code)
  confirmation_fits : (slc code : ℕ) → slc < 16 → code < 256 → IsWritable (ChangebackAcknowledgement slc code)

pub record IsJoined (c z : Configuration) : Type 0 where
  pub place : destination_place c z.own ≡ Some 0
  pub only : (point place : ℕ) → destination_place c point ≡ Some place → (point ≡ z.own) × (place ≡ 0)
  pub destinations : length c.destinations ≡ 1
  pub sets : length c.sets ≡ 1
  -- all links lead to the far point, by set 0
  pub set : (link : ℕ) → set_of c link ≡ 0
  pub peer : (link : ℕ) → peer_of c link ≡ z.own
  pub slc : (link : ℕ) → (entry_of c link).slc < 16
  -- what is made here is for the far point, and says there what it says
  pub made : (word : Management) → IsWord c word → IsWritable word → IsBetween c z (management_to c z.own word)
  pub says : (word : Management) → IsWord c word → IsWritable word → says_of c.links (management_to c z.own word) ≡ management_says c.links word
  pub own_code : (link : ℕ) → link < length c.links → link_of_code c.links (entry_of c link).slc ≡ Some link
  -- a word that comes is about the same link
  pub code : (link : ℕ) → link < length z.links → link_of_code c.links (entry_of z link).slc ≡ Some link
  pub heard : (link : ℕ) → link < length z.links → link_with_code c z.own (entry_of z link).slc ≡ Some link
  pub many : length z.links ≡ length c.links
  pub adjacent : set_place c z.own ≡ Some 0
  pub network : c.network ≡ z.network

-- where a link is down, nothing waits to go out
abbrev pub IsSilent : Link → Type 0
IsSilent l = is_down l.alignment ≡ true → (l.waiting ≡ []) × (l.acknowledgement_owed ≡ false)
