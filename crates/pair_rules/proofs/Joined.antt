-- Two nodes that face each other are joined: what the pass over the rules asks of their settings.
use Rattle.pair_rules.proofs.Basics.{◌≡◌, ◌<◌, ◌^◌, ℕ, Bool, true, false, ◌&&◌, suc, List, [], ◌∷◌, Option, None, Some, length, map, get_or, nat_eq, position, refl, ap, sym, ◌∙◌, arith, nat_tests}
use Rattle.pair_rules.proofs.Definitions.{Configuration, LinkEntry, IsFacing, destination_place, IsWell, IsManagement, read_management, Management, entry_of, set_of, management_to, made-indicator, made-dpc, made-opc, made-says, code-fits, UserMessage}
use Rattle.std.proofs.Common.{if◌then◌else◌}
use Rattle.exchange_rules.proofs.Lists.{position-map}
use Rattle.mtp3_codec.specs.declared.management.Management.TheVariants as says
use Rattle.mtp3_codec.proofs.Reading.{label_of}
use Rattle.exchange_rules.proofs.FacingNodes.{facing-turned, sets-one, destinations-one, destination-found, set-sole, peer-sole, set-found, links-alike, codes-alike, code-means}
use Rattle.exchange_rules.proofs.NamedLinks.{code-named}
use Rattle.exchange_rules.proofs.MadeManagement.{made-management}
use Rattle.exchange_rules.proofs.HeardManagement.{made-here}
use Rattle.pair_rules.proofs.World.{link_of_code, management_says, read_says, says_of}
use Rattle.pair_rules.proofs.Good.{IsBetween, IsJoined, IsWord, IsWritable}
use Rattle.pair_rules.proofs.Good as good

-- ---- the index of something in a list

-- two tests that say the same of each element
map-alike : {X Y : Type 0} (f g : X → Y) (xs : List X) (d : X) → ((k : ℕ) → k < length xs → f (get_or xs k d) ≡ g (get_or xs k d)) → map f xs ≡ map g xs
map-alike f g [] d h = refl
map-alike {Y = Y} f g (x ∷ xs) d h =
    ap (λ (y : Y). y ∷ map f xs) (h 0 (omega arith))
    ∙ ap (λ (ys : List Y). g x ∷ ys) (map-alike f g xs d (λ k l. h (suc k) (omega (arith, l))))

position-alike : {X : Type 0} (p q : X → Bool) (xs : List X) (d : X) → ((k : ℕ) → k < length xs → p (get_or xs k d) ≡ q (get_or xs k d)) → position p xs ≡ position q xs
position-alike p q xs d h =
    sym (position-map (λ (b : Bool). b) p xs) ∙ ap (λ (bs : List Bool). position (λ (b : Bool). b) bs) (map-alike p q xs d h) ∙ position-map (λ (b : Bool). b) q xs

-- in a list of one element
abbrev place_by : Bool → Option ℕ
place_by b = position (λ (n : ℕ). b) (0 ∷ [])

placed-by : (b : Bool) (place : ℕ) → place_by b ≡ Some place → (b ≡ true) × (place ≡ 0)
placed-by true place e = (refl, cc)
placed-by false place e = absurd cc

equal-numbers : (m n : ℕ) → nat_eq m n ≡ true → m ≡ n
equal-numbers m n e = grind (arith, nat_tests)

-- ---- the ranges of a word

abbrev IsInRange : Management → Type 0
IsInRange (says.ExtendedChangeoverOrder slc number) = number < 2 ^ 24
IsInRange (says.ExtendedChangeoverAcknowledgement slc number) = number < 2 ^ 24
IsInRange (says.ChangebackDeclaration slc code) = (slc < 2 ^ 4) × (code < 2 ^ 8)
IsInRange (says.ChangebackAcknowledgement slc code) = (slc < 2 ^ 4) × (code < 2 ^ 8)
IsInRange _ = Unit {0}

in-range : (word : Management) → IsWritable word → IsInRange word
in-range _ (good.order_fits slc number l) = l
in-range _ (good.answer_fits slc number l) = l
in-range _ (good.declaration_fits slc code s l) = (s, l)
in-range _ (good.confirmation_fits slc code s l) = (s, l)

module _ (near far : Configuration) (near_well : IsWell near) (far_well : IsWell far) (f : IsFacing near far) where
  -- a word that is written is within its ranges
  ranged : (word : Management) → IsWord near word → IsInRange word → IsManagement word
  ranged _ (good.orders link number l) r = (code-fits near near_well link, r)
  ranged _ (good.answers link number l) r = (code-fits near near_well link, r)
  ranged _ (good.declares slc code s l) r = r
  ranged _ (good.confirms slc code) r = r

  managed : (word : Management) → IsWord near word → IsWritable word → IsManagement word
  managed word is fits = ranged word is (in-range word fits)

  -- ---- points

  sole-point : (point place : ℕ) → destination_place near point ≡ Some place → (nat_eq point far.own ≡ true) × (place ≡ 0)
  sole-point point place e =
      placed-by (nat_eq point far.own) place
      (sym (ap (λ (points : List ℕ). position (λ (p : ℕ). nat_eq point p) points) f.near_leads.destination)
      ∙ position-map (λ (p : ℕ). nat_eq point p) (λ d. d.point) near.destinations ∙ e)

  only-point : (point place : ℕ) → destination_place near point ≡ Some place → (point ≡ far.own) × (place ≡ 0)
  only-point point place e =
      let found : (nat_eq point far.own ≡ true) × (place ≡ 0) = sole-point point place e in
      (equal-numbers point far.own found.0, found.1)

  -- ---- codes

  own-code : (link : ℕ) → link < length near.links → link_of_code near.links (entry_of near link).slc ≡ Some link
  own-code link there =
      let slc : ℕ = (entry_of near link).slc in
      position-alike (λ (l : LinkEntry). nat_eq l.slc slc) (λ (l : LinkEntry). nat_eq l.set (set_of near link) && nat_eq l.slc slc) near.links (record { name = []; set = 0; slc = 0; share = None })
      (λ k l. sym (ap (λ (b : Bool). b && nat_eq (entry_of near k).slc slc) (same k)))
      ∙ code-named near near_well link there
    where
      same : (k : ℕ) → nat_eq (set_of near k) (set_of near link) ≡ true
      same k = rw (set-sole near far.own f.near_leads near_well k, set-sole near far.own f.near_leads near_well link) refl

  far-link : (link : ℕ) → link < length far.links → link < length near.links
  far-link link there = omega (arith, there, links-alike near far f)

  -- ---- what is made

  made-between : (word : Management) → IsWord near word → IsWritable word → IsBetween near far (management_to near far.own word)
  made-between word is fits =
      let h : IsManagement word = managed word is fits in
      record {
        to = made-dpc near near_well far.own word far_well.own h;
        label = label_of far.own near.own word;
        here = made-here near far f near_well far_well word h;
        said = good.is_word (made-management near near_well far.own word) (made-indicator near near_well far.own word) (made-opc near near_well far.own word far_well.own h) word
            (made-says near near_well far.own word far_well.own h) is;
      }

  made-word : (word : Management) → IsWord near word → IsWritable word → says_of near.links (management_to near far.own word) ≡ management_says near.links word
  made-word word is fits =
      ap (λ (b : Bool). if b then read_says near.links (read_management (management_to near far.own word).sif) else UserMessage) (made-management near near_well far.own word)
      ∙ ap (read_says near.links) (made-says near near_well far.own word far_well.own (managed word is fits))

  -- ---- all of it

  are-joined : IsJoined near far
  are-joined = record {
    place = destination-found near far.own f.near_leads near_well;
    only = only-point;
    destinations = destinations-one near far.own f.near_leads;
    sets = sets-one near far.own f.near_leads;
    set = set-sole near far.own f.near_leads near_well;
    peer = peer-sole near far.own f.near_leads near_well;
    slc = code-fits near near_well;
    made = made-between;
    says = made-word;
    own_code = own-code;
    code = λ link there. ap (link_of_code near.links) (sym (codes-alike near far f link (far-link link there))) ∙ own-code link (far-link link there);
    heard = code-means far near (facing-turned near far f) near_well;
    many = sym (links-alike near far f);
    adjacent = set-found near far.own f.near_leads near_well;
    network = f.network;
  }

pub joined : (near far : Configuration) → IsWell near → IsWell far → IsFacing near far → IsJoined near far
joined near far near_well far_well f = are-joined near far near_well far_well f
