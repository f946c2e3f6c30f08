-- A message that has a link, one that waits, and what is made here to an adjacent point are for other points.
use Rattle.exchange_rules.proofs.Basics.{◌≡◌, ◌≢◌, ◌<◌, ◌≤◌, ℕ, ◌+◌, ◌*◌, ◌/◌, ◌%◌, ◌^◌, Bool, true, false, ◌&&◌, not, List, [], ◌∷◌, ◌++◌, length, nat_eq, Option, Some, None, refl, ap, sym, subst, ◌∙◌, arith, slice_index_or, is_some, ⊎_elim, cases_lt, get_or_past, option_and_then, nat_tests, position-Some}
use Rattle.exchange_rules.proofs.Definitions.{Message, dpc_of, flow_of, is_management, Configuration, DestinationEntry, LinkEntry, SetEntry, IsWell, IsDestination, IsLink, IsSet, IsFarPoint, destination_place, set_place, Management, ChangebackDeclaration, link_code_of, field_octets, Acknowledgement, Test, LinkTestValue, label_octets, chosen_link, HoldSet, Parts, facts, link_of, waits, is_flow_held, is_held_at, own_sio, management_to, testing, is_adjacent, test_answer, link_test, own_pattern, peer_of, entry_of, set_of, adjacent_of, declaration}
use Rattle.mtp3_codec.specs.Headings.{management_heading, kind_heading}
use Rattle.exchange_rules.specs.LastingMessages.{is_onward}

-- ---- the label of what is made here

label-octets : (n : ℕ) → (n % 2 ^ 8 + n / 2 ^ 8 % 2 ^ 8 * 2 ^ 8 + n / 2 ^ 16 % 2 ^ 8 * 2 ^ 16 + n / 2 ^ 24 % 2 ^ 8 * 2 ^ 24) % 2 ^ 14 ≡ n % 2 ^ 14
label-octets n = omega arith

label-point : (dpc opc sls : ℕ) → dpc < 2 ^ 14 → (dpc + opc * 2 ^ 14 + sls * 2 ^ 28) % 2 ^ 14 ≡ dpc
label-point dpc opc sls h = omega (arith, h)

-- ---- points that the settings know

module _ (c : Configuration) (well : IsWell c) where
  destination-far : (point place : ℕ) → destination_place c point ≡ Some place → point ≢ c.own
  destination-far point place e =
      let none : DestinationEntry = record { point = 0; sets = []; joined = false } in
      let found : (place < length c.destinations) × (nat_eq point (slice_index_or c.destinations place none).point ≡ true)
      × ((k : ℕ) → k < place → nat_eq point (slice_index_or c.destinations k none).point ≡ false) = position-Some _ c.destinations place none e in
      let same : point ≡ (slice_index_or c.destinations place none).point = (let h = found.1 in grind (arith, nat_tests, h)) in
      let known : IsDestination c.own (length c.sets) (slice_index_or c.destinations place none) = well.destinations place none found.0 in
      λ own. known.point.far (sym same ∙ own)

  pub set-far : (set : ℕ) → set < length c.sets → IsFarPoint c.own (adjacent_of c set)
  set-far set there =
      let none : SetEntry = record { name = []; adjacent = 0 } in
      let known : IsSet c.own (slice_index_or c.sets set none) = well.sets set none there in
      known.adjacent

  adjacent-far : (set : Option ℕ) (point : ℕ) → set_place c point ≡ set → is_adjacent c point ≡ true → IsFarPoint c.own point
  adjacent-far (Some set) point e h =
      let none : SetEntry = record { name = []; adjacent = 0 } in
      let found : (set < length c.sets) × (nat_eq point (slice_index_or c.sets set none).adjacent ≡ true)
      × ((k : ℕ) → k < set → nat_eq point (slice_index_or c.sets k none).adjacent ≡ false) = position-Some _ c.sets set none e in
      let same : point ≡ (slice_index_or c.sets set none).adjacent = (let t = found.1 in grind (arith, nat_tests, t)) in
      subst (IsFarPoint c.own) (sym same) (set-far set found.0)
  adjacent-far None point e h = absurd (let no : false ≡ true = sym (ap is_some e) ∙ h in cc)

  -- a link leads to a set that is there; one that isn't there, to the first
  pub link-set : (link : ℕ) → set_of c link < length c.sets
  link-set link =
      let none : LinkEntry = record { name = []; set = 0; slc = 0; share = None } in
      ⊎_elim
      (λ (there : link < length c.links). (let known : IsLink (length c.sets) (slice_index_or c.links link none) = well.links link none there in known.set))
      (λ (past : length c.links ≤ link).
      let first : set_of c link ≡ 0 = ap (λ (l : LinkEntry). l.set) (get_or_past c.links link none past) in
      omega (arith, first, well.set_count.above))
      (cases_lt link (length c.links))

  -- ---- messages

  away : (m : Message) → dpc_of m ≢ c.own → is_onward c m ≡ true
  away m h = by (nat_eq (dpc_of m) c.own) refl
    where
      by : (b : Bool) → nat_eq (dpc_of m) c.own ≡ b → not b ≡ true
      by true e = absurd (h (let goal : dpc_of m ≡ c.own = grind (arith, nat_tests, e) in goal))
      by false e = refl

  -- a message made here
  abbrev made : (point sls : ℕ) → List ℕ → (sio : ℕ) → Message
  made point sls rest sio = record { sio = sio; sif = label_octets (record { dpc = point; opc = c.own; sls = sls }) ++ rest }

  made-onward : (point sls : ℕ) (rest : List ℕ) (sio : ℕ) → IsFarPoint c.own point → is_onward c (made point sls rest sio) ≡ true
  made-onward point sls rest sio h =
      let goes : dpc_of (made point sls rest sio) ≡ point = label-octets (point + c.own * 2 ^ 14 + sls * 2 ^ 28) ∙ label-point point c.own sls h.fits in
      away (made point sls rest sio) (λ own. h.far (sym goes ∙ own))

  management-onward : (set : ℕ) (message : Management) → set < length c.sets → is_onward c (management_to c (adjacent_of c set) message) ≡ true
  management-onward set message there =
      made-onward (adjacent_of c set) (link_code_of message) (management_heading message ∷ field_octets message) (own_sio c 0) (set-far set there)

  pub declaration-onward : (link code : ℕ) → is_onward c (declaration c link code) ≡ true
  declaration-onward link code = management-onward (set_of c link) (ChangebackDeclaration (entry_of c link).slc code) (link-set link)

  pub answer-onward : (point : ℕ) (test : LinkTestValue) → is_adjacent c point ≡ true → is_onward c (test_answer c point test) ≡ true
  answer-onward point test e =
      made-onward point test.slc (kind_heading Acknowledgement ∷ length test.pattern * 16 ∷ test.pattern) (own_sio c testing)
      (adjacent-far (set_place c point) point refl e)

  pub test-onward : (link : ℕ) → is_onward c (link_test c link) ≡ true
  test-onward link =
      made-onward (peer_of c link) (entry_of c link).slc (kind_heading Test ∷ 4 * 16 ∷ own_pattern) (own_sio c testing) (set-far (set_of c link) (link-set link))

  placed-onward : (place : Option ℕ) (m : Message) → destination_place c (dpc_of m) ≡ place → is_some place ≡ true → is_onward c m ≡ true
  placed-onward (Some place) m e h = away m (destination-far (dpc_of m) place e)
  placed-onward None m e h = absurd cc

  some-of : {A : Type 0} (f : ℕ → Option A) (place : Option ℕ) (x : A) → option_and_then f place ≡ Some x → is_some place ≡ true
  some-of f (Some place) x e = refl
  some-of f None x e = absurd cc

  -- a message that has a link, and one that waits
  pub routed-onward : (p : Parts) (m : Message) (link : ℕ) → link_of c p (flow_of m) ≡ Some link → is_onward c m ≡ true
  routed-onward p m link e =
      placed-onward (destination_place c (dpc_of m)) m refl
      (some-of (λ place. chosen_link (facts c p) place (flow_of m).sls) (destination_place c (dpc_of m)) link e)

  held-place : (h : HoldSet) (place : Option ℕ) (sls : ℕ) → is_held_at h place sls ≡ true → is_some place ≡ true
  held-place h (Some place) sls e = refl
  held-place h None sls e = absurd cc

  both-true : (a b : Bool) → (a && b) ≡ true → b ≡ true
  both-true true b e = e
  both-true false b e = absurd cc

  pub waiting-onward : (h : HoldSet) (m : Message) → waits c h m ≡ true → is_onward c m ≡ true
  waiting-onward h m e =
      placed-onward (destination_place c (dpc_of m)) m refl
      (held-place h (destination_place c (dpc_of m)) (flow_of m).sls (both-true (not (is_management m)) (is_flow_held c h m) e))
