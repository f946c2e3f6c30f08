-- Of the lines between two nodes that share a set, the near end of one changes; what happens on a link that leads
-- elsewhere changes none.
use Rattle.pair_rules.proofs.Basics.{◌≡◌, ◌≢◌, ◌<◌, ℕ, Bool, true, false, List, Option, Some, None, length, nat_eq, nat_lt, ap, sym, subst, ◌∙◌, lt-ltb, position, [], slice_index_or, ⊎_elim, cases_eq}
use Rattle.std.proofs.Common.{cond}
use Rattle.std.proofs.lemmas.List.Quantifiers.{position-Some}
use Rattle.exchange_rules.proofs.Basics.{eqb-true}
use Rattle.exchange_rules.proofs.NamedLinks.{code-named}
use Rattle.exchange_rules.proofs.Settling.{left-true, right-true}
use Rattle.exchange_rules.specs.Messages.{link_in_set}
use Rattle.settings.specs.Sharing.{is_link_of}
use Rattle.pair_rules.proofs.Definitions.{Message, Flow, Configuration, LinkEntry, IsWell, Node, Parts, WholeQueues, Standing, with_standing, no_changeover, changeover_of, down, set_of, entry_of, code-fits, LinkEnd, BecomeAt}
use Rattle.pair_rules.proofs.World.{World, end_of}
use Rattle.pair_rules.proofs.Lines.{standing-other}
use Rattle.neighbour_rules.proofs.World.{code_of, link_at_code, line_of, shown_by}
use Rattle.neighbour_rules.proofs.Good.{Joint, at, set}

pub of-some : (b : Bool) (n i : ℕ) → cond {A = Option ℕ} b (Some n) None ≡ Some i → n ≡ i
of-some true n i e = cc
of-some false n i e = absurd cc

module _ (c : Configuration) (well : IsWell c) (its_set : ℕ) where
  abbrev none : LinkEntry
  none = record { name = []; set = 0; slc = 0; share = None }

  -- each link of the set is the one with its code
  pub own-line : (link : ℕ) → link < length c.links → set_of c link ≡ its_set → link_at_code c its_set (code_of c link) ≡ link
  own-line link l its =
      of-some (nat_lt (link_at_code c its_set (code_of c link)) (length c.links)) (link_at_code c its_set (code_of c link)) link
      (ap (link_in_set c (code_of c link)) (sym its) ∙ code-named c well link l)

  -- and the one with a code is of the set, and has that code
  pub record IsAtCode (link code : ℕ) : Type 0 where
    pub of_set : set_of c link ≡ its_set
    pub its_code : code_of c link ≡ code

  pub at-line : (link code : ℕ) → link < length c.links → link_at_code c its_set code ≡ link → IsAtCode link code
  at-line link code l e =
      let within : nat_lt (link_at_code c its_set code) (length c.links) ≡ true = ap (λ (k : ℕ). nat_lt k (length c.links)) e ∙ lt-ltb link (length c.links) l in
      let found : position (is_link_of its_set code) c.links ≡ Some link =
      ap (λ (b : Bool). cond {A = Option ℕ} b (Some (link_at_code c its_set code)) None) within ∙ ap (λ (k : ℕ). Some k) e in
      let is : is_link_of its_set code (entry_of c link) ≡ true = (position-Some (is_link_of its_set code) c.links link none found).1 in
      record {
        of_set = eqb-true (set_of c link) its_set (left-true (nat_eq (set_of c link) its_set) (nat_eq (code_of c link) code) is);
        its_code = eqb-true (code_of c link) code (right-true (nat_eq (set_of c link) its_set) (nat_eq (code_of c link) code) is);
      }

module _ (c z : Configuration) where
  -- a changeover goes on only about links that are down; so it does where one goes on otherwise
  pub standing-settled : (p : Parts) (link : ℕ) (s : Standing) → (changeover_of p link).incomplete ≡ true → ((other : ℕ) → down p other ≡ false → changeover_of p other ≡ no_changeover)
      → (other : ℕ) → down p other ≡ false → slice_index_or (with_standing p.changeovers link s) other no_changeover ≡ no_changeover
  standing-settled p link s incomplete h other up =
      ⊎_elim
      (λ (same : other ≡ link).
      let none : changeover_of p link ≡ no_changeover = h link (subst (λ (k : ℕ). down p k ≡ false) same up) in
      let no : true ≡ false = sym incomplete ∙ ap (λ (x : Standing). x.incomplete) none in
      absurd cc)
      (λ (d : other ≢ link). standing-other c z p link other s d ∙ h other up)
      (cases_eq other link)

module _ (c z : Configuration) (j : Joint c z) where
  -- the near end of one line becomes this, and no other changes
  pub becomes : (w : World) (n : Node WholeQueues) (arrived loose : List Message) (route : Flow → Option ℕ) (link : ℕ) (x : LinkEnd) → link < length c.links → set_of c link ≡ set c z j
      → end_of n link ≡ x → ((other : ℕ) → other ≢ link → end_of n other ≡ end_of w.near.node other)
      → BecomeAt (shown_by c z (set c z j) j.shares.far_set j.base route w) (code_of c link) (record (line_of c z (set c z j) j.shares.far_set w (code_of c link)) { near = x })
      (line_of c z (set c z j) j.shares.far_set (at c z j w n arrived loose))
  becomes w n arrived loose route link x l its here others = record {
    inside = code-fits c j.near_well link;
    here = ap (λ (y : LinkEnd). record (line_of c z (set c z j) j.shares.far_set w (code_of c link)) { near = y }) (ap (end_of n) (own-line c j.near_well (set c z j) link l its) ∙ here);
    others = λ code d.
        ap (λ (y : LinkEnd). record (line_of c z (set c z j) j.shares.far_set w code) { near = y })
        (others (link_at_code c (set c z j) code) (λ e. d (sym (at-line c j.near_well (set c z j) link code l e).its_code)));
  }

  -- a link changes that leads elsewhere
  pub none-becomes : (w : World) (n : Node WholeQueues) (arrived loose : List Message) (link : ℕ) → link < length c.links → set_of c link ≢ set c z j
      → ((other : ℕ) → other ≢ link → end_of n other ≡ end_of w.near.node other)
      → line_of c z (set c z j) j.shares.far_set (at c z j w n arrived loose) ≡ line_of c z (set c z j) j.shares.far_set w
  none-becomes w n arrived loose link l elsewhere others = λ i. λ code.
      record (line_of c z (set c z j) j.shares.far_set w code) {
        near = others (link_at_code c (set c z j) code) (λ e. elsewhere (at-line c j.near_well (set c z j) link code l e).of_set) i;
      }
