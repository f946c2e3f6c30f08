-- The two ends of a link between the nodes, by their numbers, and the line of that link; and a link that leads
-- elsewhere has no far end.
use Rattle.pair_rules.proofs.Basics.{◌≡◌, ◌≢◌, ◌<◌, ◌≤◌, ℕ, Bool, true, false, not, [], Option, Some, None, length, map, nat_eq, refl, ap, sym, subst, ◌∙◌, if◌then◌else◌, option_and_then, slice_get, ⊎_elim, cases_eq, cases_lt, eq-eqb}
use Rattle.std.proofs.lemmas.Option.{slice_get-get_or, slice_get_past}
use Rattle.exchange_rules.proofs.Basics.{eqb-true}
use Rattle.exchange_rules.proofs.NamedLinks.{set-named}
use Rattle.exchange_rules.proofs.Onward.{link-set}
use Rattle.exchange_rules.proofs.SharingNodes as sharing
use Rattle.exchange_rules.proofs.SharingNodes.{shared-ends, shared-peer}
use Rattle.exchange_rules.specs.Messages.{link_in_set}
use Rattle.exchange_rules.specs.Routing.{adjacent_of}
use Rattle.pair_rules.proofs.Definitions.{Flow, Configuration, LinkEntry, set_place, set_of, entry_of, code-fits, link_with_code, Line, BecomeAt}
use Rattle.pair_rules.proofs.World.{World, end_of, frame_of}
use Rattle.neighbour_rules.specs.Neighbours.{end_there, leads_elsewhere_by}
use Rattle.neighbour_rules.proofs.World.{code_of, link_at_code, line_of, shown_by}
use Rattle.neighbour_rules.proofs.Good.{Joint, set}
use Rattle.neighbour_rules.proofs.Lines.{IsAtCode, at-line, of-some, own-line}

-- a link of the near node and one of the far node that have the same code, each of the set that leads to the other
pub record AreEnds (c z : Configuration) (near_set far_set link other : ℕ) : Type 0 where
  pub here : link < length c.links
  pub there : other < length z.links
  pub of_set : set_of c link ≡ near_set
  pub their_set : set_of z other ≡ far_set
  pub code : code_of z other ≡ code_of c link

pub ends-turned : (c z : Configuration) (near_set far_set link other : ℕ) → AreEnds c z near_set far_set link other → AreEnds z c far_set near_set other link
ends-turned c z near_set far_set link other e = record { here = e.there; there = e.here; of_set = e.their_set; their_set = e.of_set; code = sym e.code }

-- the line of a link, by the numbers of its ends
abbrev pub line_at : World → (link other : ℕ) → Line
line_at w link other = record {
  near = end_of w.near.node link;
  far = end_of w.far.node other;
  to_far = map frame_of (w.to_far.user_data other);
  to_near = map frame_of (w.to_near.user_data link);
  told_far = length (w.to_far.statuses other);
  told_near = length (w.to_near.statuses link);
  near_may_follow = w.near_may link;
  far_may_follow = w.far_may other;
}

same-place : (m n : ℕ) → Some m ≡ Some n → m ≡ n
same-place m n e = cc

module _ (c z : Configuration) (j : Joint c z) where
  abbrev none : LinkEntry
  none = record { name = []; set = 0; slc = 0; share = None }

  -- as the steps say it
  abbrev pub far_of : (link : ℕ) → Option ℕ
  far_of link = end_there c z (slice_get c.links link)

  abbrev pub IsLine : (link other : ℕ) → Type 0
  IsLine link other = AreEnds c z (set c z j) j.shares.far_set link other

  -- ---- which links have one

  -- the far node's link of a code
  pub their-own : (slc other : ℕ) → other < length z.links → link_with_code z c.own slc ≡ Some other → IsAtCode z j.far_well j.shares.far_set other slc
  their-own slc other l e =
      at-line z j.far_well j.shares.far_set other slc l
      (of-some _ (link_at_code z j.shares.far_set slc) other (sym (ap (option_and_then (link_in_set z slc)) j.shares.far_leads.adjacent) ∙ e))

  -- a link of the set has one
  pub record HasEnd (link : ℕ) : Type 0 where
    pub other : ℕ
    pub is : far_of link ≡ Some other
    pub named : link_with_code z c.own (code_of c link) ≡ Some other
    pub line : IsLine link other

  pub has-end : (link : ℕ) → link < length c.links → set_of c link ≡ set c z j → HasEnd link
  has-end link l its = by (shared-ends c z j.shares j.near_well link l its)
    where
      by : (other : ℕ) × sharing.AreEnds c z link other → HasEnd link
      by e =
          let at : IsAtCode z j.far_well j.shares.far_set e.0 (code_of c link) = their-own (code_of c link) e.0 e.1.there e.1.far_named in
          record {
            other = e.0;
            is =
                ap (end_there c z) (slice_get-get_or c.links link none l)
                ∙ ap (λ (b : Bool). if b then link_with_code z c.own (entry_of c link).slc else None)
                (eq-eqb (adjacent_of c (entry_of c link).set) z.own (shared-peer c z j.shares j.near_well link its))
                ∙ e.1.far_named;
            named = e.1.far_named;
            line = record { here = l; there = e.1.there; of_set = its; their_set = at.of_set; code = at.its_code };
          }

  -- one of another set leads elsewhere
  adjacent-other : (link : ℕ) → link < length c.links → set_of c link ≢ set c z j → nat_eq (adjacent_of c (entry_of c link).set) z.own ≡ false
  adjacent-other link l apart = by (nat_eq (adjacent_of c (entry_of c link).set) z.own) refl
    where
      by : (b : Bool) → nat_eq (adjacent_of c (entry_of c link).set) z.own ≡ b → b ≡ false
      by false e = refl
      by true e =
          let same : Some (set_of c link) ≡ Some (set c z j) =
          sym (set-named c j.near_well (set_of c link) (link-set c j.near_well link))
          ∙ ap (set_place c) (eqb-true (adjacent_of c (entry_of c link).set) z.own e) ∙ j.shares.near_leads.adjacent in
          absurd (apart (same-place (set_of c link) (set c z j) same))

  pub none-there : (link : ℕ) → link < length c.links → set_of c link ≢ set c z j → far_of link ≡ None
  none-there link l apart =
      ap (end_there c z) (slice_get-get_or c.links link none l)
      ∙ ap (λ (b : Bool). if b then link_with_code z c.own (entry_of c link).slc else None) (adjacent-other link l apart)

  pub none-past : (link : ℕ) → length c.links ≤ link → far_of link ≡ None
  none-past link l = ap (end_there c z) (slice_get_past c.links link l)

  -- and has a far end only if it is of the set
  pub is-line : (link other : ℕ) → far_of link ≡ Some other → IsLine link other
  is-line link other e =
      ⊎_elim
      (λ (l : link < length c.links).
      ⊎_elim
      (λ (its : set_of c link ≡ set c z j).
      let h : HasEnd link = has-end link l its in
      subst (λ (k : ℕ). IsLine link k) (same-place h.other other (sym h.is ∙ e)) h.line)
      (λ (apart : set_of c link ≢ set c z j). (let no : None ≡ Some other = sym (none-there link l apart) ∙ e in absurd cc))
      (cases_eq (set_of c link) (set c z j)))
      (λ (l : length c.links ≤ link). (let no : None ≡ Some other = sym (none-past link l) ∙ e in absurd cc))
      (cases_lt link (length c.links))

  pub of-no-set : (link : ℕ) → far_of link ≡ None → link < length c.links → set_of c link ≢ set c z j
  of-no-set link e l its = (let h : HasEnd link = has-end link l its in let no : None ≡ Some h.other = sym e ∙ h.is in absurd cc)

  pub its-far : (link other : ℕ) → IsLine link other → far_of link ≡ Some other
  its-far link other e =
      let h : HasEnd link = has-end link e.here e.of_set in
      let same : h.other ≡ other =
      sym (own-line z j.far_well j.shares.far_set h.other h.line.there h.line.their_set)
      ∙ ap (link_at_code z j.shares.far_set) (h.line.code ∙ sym e.code)
      ∙ own-line z j.far_well j.shares.far_set other e.there e.their_set in
      h.is ∙ ap (λ (k : ℕ). Some k) same

  -- a link that leads elsewhere is there, and isn't of the set
  pub record LeadsAway (link : ℕ) : Type 0 where
    pub here : link < length c.links
    pub apart : set_of c link ≢ set c z j

  pub leads-away : (link : ℕ) → leads_elsewhere_by c z (slice_get c.links link) ≡ true → LeadsAway link
  leads-away link e =
      ⊎_elim
      (λ (l : link < length c.links). record {
        here = l;
        apart = λ its.
            (let no : true ≡ false =
            sym e ∙ ap (leads_elsewhere_by c z) (slice_get-get_or c.links link none l)
            ∙ ap not (eq-eqb (adjacent_of c (entry_of c link).set) z.own (shared-peer c z j.shares j.near_well link its)) in
            absurd cc);
      })
      (λ (l : length c.links ≤ link). (let no : true ≡ false = sym e ∙ ap (leads_elsewhere_by c z) (slice_get_past c.links link l) in absurd cc))
      (cases_lt link (length c.links))

  -- ---- its line

  pub near-own : (link other : ℕ) → IsLine link other → link_at_code c (set c z j) (code_of c link) ≡ link
  near-own link other e = own-line c j.near_well (set c z j) link e.here e.of_set

  pub far-own : (link other : ℕ) → IsLine link other → link_at_code z j.shares.far_set (code_of c link) ≡ other
  far-own link other e = ap (link_at_code z j.shares.far_set) (sym e.code) ∙ own-line z j.far_well j.shares.far_set other e.there e.their_set

  pub line-known : (w : World) (link other : ℕ) → IsLine link other → line_of c z (set c z j) j.shares.far_set w (code_of c link) ≡ line_at w link other
  line-known w link other e =
      ap (λ (k : ℕ). line_at w k (link_at_code z j.shares.far_set (code_of c link))) (near-own link other e)
      ∙ ap (λ (k : ℕ). line_at w link k) (far-own link other e)

  -- it becomes this, and no other line changes
  pub line-becomes : (v w : World) (route : Flow → Option ℕ) (link other : ℕ) (change : Line → Line) → IsLine link other → line_at v link other ≡ change (line_at w link other)
      → ((k i : ℕ) → k ≢ link → i ≢ other → line_at v k i ≡ line_at w k i)
      → BecomeAt (shown_by c z (set c z j) j.shares.far_set j.base route w) (code_of c link) (change (line_of c z (set c z j) j.shares.far_set w (code_of c link))) (line_of c z (set c z j) j.shares.far_set v)
  line-becomes v w route link other change e here others = record {
    inside = code-fits c j.near_well link;
    here = line-known v link other e ∙ here ∙ ap change (sym (line-known w link other e));
    others = λ code d.
        others (link_at_code c (set c z j) code) (link_at_code z j.shares.far_set code)
        (λ same. d (sym (at-line c j.near_well (set c z j) link code e.here same).its_code))
        (λ same. d (sym (at-line z j.far_well j.shares.far_set other code e.there same).its_code ∙ e.code));
  }
