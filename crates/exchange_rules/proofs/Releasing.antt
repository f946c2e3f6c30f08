-- A release keeps the order of Held, and a completion touches no other link.
use Rattle.exchange_rules.proofs.Basics.{◌≡◌, ◌≢◌, ◌⊎◌, ◌<◌, ◌&&◌, ◌++◌, ℕ, Bool, true, false, not, List, [], ◌∷◌, length, refl, ap, sym, subst, ◌∙◌, arith, Option, Some, None, nat_eq, filter, if◌then◌else◌, ⊎_elim, cases_eq, eq-eqb, ne_eqb, append-nil, append_assoc, get_or-set_same, get_or-set_other, length-set, filter-append}
use Rattle.exchange_rules.proofs.Definitions.{Message, flow_of, Configuration, Queue, first_queue, appended, emptied, moved, Node, WholeQueues, queue_at, whole, link_of, goes_by, waits, go_on, go_by, go, go_each, goes_on_by, completion_leaves_others, release_keeps_order, moved_before_held}

-- ---- a completion

pub others_left : completion_leaves_others
others_left qs link number = (
  λ other apart. get_or-set_other qs.links link other (emptied (queue_at qs link)) first_queue apart,
  λ of_flow. filter-append of_flow (moved (queue_at qs link) number) qs.held,
)

-- ---- what one message does

-- one message, where a test holds
abbrev one_if : Bool → Message → List Message
one_if b m = if b then m ∷ [] else []

-- the rules that a release goes by stay
record Same (c : Configuration) (n m : Node WholeQueues) : Type 0 where
  pub waits : (x : Message) → waits c m.parts.holds x ≡ waits c n.parts.holds x
  pub goes : (l : ℕ) (x : Message) → goes_on_by c m.parts l x ≡ goes_on_by c n.parts l x
  pub links : length m.queues.links ≡ length n.queues.links

module _ (c : Configuration) where
  go_on-same : (link : Option ℕ) (m : Message) (n : Node WholeQueues) → Same c n (go_on whole c link m n)
  go_on-same (Some l) m n = record { waits = λ x. refl; goes = λ l x. refl; links = length-set n.queues.links l (appended (queue_at n.queues l) m) }
  go_on-same None m n = record { waits = λ x. refl; goes = λ l x. refl; links = refl }

  go_by-same : (b : Bool) (m : Message) (n : Node WholeQueues) → Same c n (go_by whole c b m n)
  go_by-same true m n = record { waits = λ x. refl; goes = λ l x. refl; links = refl }
  go_by-same false m n = go_on-same (link_of c n.parts (flow_of m)) m n

  go_on-held : (link : Option ℕ) (m : Message) (n : Node WholeQueues) → (go_on whole c link m n).queues.held ≡ n.queues.held ++ []
  go_on-held (Some l) m n = sym (append-nil n.queues.held)
  go_on-held None m n = sym (append-nil n.queues.held)

  go_by-held : (b : Bool) (m : Message) (n : Node WholeQueues) → (go_by whole c b m n).queues.held ≡ n.queues.held ++ one_if b m
  go_by-held true m n = refl
  go_by-held false m n = go_on-held (link_of c n.parts (flow_of m)) m n

  -- a message at the end of one queue, seen at another or at the same
  appended-at : (n : Node WholeQueues) (l to : ℕ) (m : Message) → l < length n.queues.links → (to ≡ l) ⊎ (to ≢ l)
      → (queue_at (whole.appended n.queues to m) l).all ≡ (queue_at n.queues l).all ++ one_if (nat_eq to l) m
  appended-at n l to m h =
      ⊎_elim
      (λ (e : to ≡ l). subst (λ (t : ℕ). (queue_at (whole.appended n.queues t m) l).all ≡ (queue_at n.queues l).all ++ one_if (nat_eq t l) m) (sym e)
      (ap (λ (q : Queue). q.all) (get_or-set_same n.queues.links l (appended (queue_at n.queues l) m) first_queue h)
      ∙ ap (λ (b : Bool). (queue_at n.queues l).all ++ one_if b m) (sym (eq-eqb l l refl))))
      (λ (d : to ≢ l).
      ap (λ (q : Queue). q.all) (get_or-set_other n.queues.links to l (appended (queue_at n.queues to) m) first_queue (λ e. d (sym e)))
      ∙ sym (append-nil (queue_at n.queues l).all)
      ∙ ap (λ (b : Bool). (queue_at n.queues l).all ++ one_if b m) (sym (ne_eqb to l d)))

  go_on-all : (link : Option ℕ) (m : Message) (n : Node WholeQueues) (l : ℕ) → l < length n.queues.links
      → (queue_at (go_on whole c link m n).queues l).all ≡ (queue_at n.queues l).all ++ one_if (goes_by link l) m
  go_on-all (Some to) m n l h = appended-at n l to m h (cases_eq to l)
  go_on-all None m n l h = sym (append-nil (queue_at n.queues l).all)

  go_by-all : (b : Bool) (m : Message) (n : Node WholeQueues) (l : ℕ) → l < length n.queues.links
      → (queue_at (go_by whole c b m n).queues l).all ≡ (queue_at n.queues l).all ++ one_if (not b && goes_by (link_of c n.parts (flow_of m)) l) m
  go_by-all true m n l h = sym (append-nil (queue_at n.queues l).all)
  go_by-all false m n l h = go_on-all (link_of c n.parts (flow_of m)) m n l h

  -- ---- what several do

  filter-alike : (f g : Message → Bool) (ms : List Message) → ((x : Message) → f x ≡ g x) → filter f ms ≡ filter g ms
  filter-alike f g [] e = refl
  filter-alike f g (m ∷ ms) e =
      ap (λ (b : Bool). if b then m ∷ filter f ms else filter f ms) (e m)
      ∙ ap (λ (xs : List Message). if g m then m ∷ xs else xs) (filter-alike f g ms e)

  one-more : (b : Bool) (m : Message) (xs : List Message) → one_if b m ++ xs ≡ (if b then m ∷ xs else xs)
  one-more true m xs = refl
  one-more false m xs = refl

  go_each-held : (ms : List Message) (n : Node WholeQueues) → (go_each whole c ms n).queues.held ≡ n.queues.held ++ filter (waits c n.parts.holds) ms
  go_each-held [] n = sym (append-nil n.queues.held)
  go_each-held (m ∷ ms) n =
      let b : Bool = waits c n.parts.holds m in
      go_each-held ms (go whole c m n)
      ∙ ap (λ (xs : List Message). (go whole c m n).queues.held ++ xs) (filter-alike _ _ ms (go_by-same b m n).waits)
      ∙ ap (λ (xs : List Message). xs ++ filter (waits c n.parts.holds) ms) (go_by-held b m n)
      ∙ append_assoc n.queues.held (one_if b m) (filter (waits c n.parts.holds) ms)
      ∙ ap (λ (xs : List Message). n.queues.held ++ xs) (one-more b m (filter (waits c n.parts.holds) ms))

  go_each-all : (ms : List Message) (n : Node WholeQueues) (l : ℕ) → l < length n.queues.links
      → (queue_at (go_each whole c ms n).queues l).all ≡ (queue_at n.queues l).all ++ filter (goes_on_by c n.parts l) ms
  go_each-all [] n l h = sym (append-nil (queue_at n.queues l).all)
  go_each-all (m ∷ ms) n l h =
      let s : Same c n (go whole c m n) = go_by-same (waits c n.parts.holds m) m n in
      go_each-all ms (go whole c m n) l (omega (arith, h, s.links))
      ∙ ap (λ (xs : List Message). (queue_at (go whole c m n).queues l).all ++ xs) (filter-alike _ _ ms (s.goes l))
      ∙ ap (λ (xs : List Message). xs ++ filter (goes_on_by c n.parts l) ms) (go_by-all (waits c n.parts.holds m) m n l h)
      ∙ append_assoc (queue_at n.queues l).all (one_if (goes_on_by c n.parts l m) m) (filter (goes_on_by c n.parts l) ms)
      ∙ ap (λ (xs : List Message). (queue_at n.queues l).all ++ xs) (one-more (goes_on_by c n.parts l m) m (filter (goes_on_by c n.parts l) ms))

pub order_kept : release_keeps_order
order_kept c n = (
  go_each-held c n.queues.held (record n { queues = whole.without_held n.queues }),
  λ link h. go_each-all c n.queues.held (record n { queues = whole.without_held n.queues }) link h,
)

-- ---- a completion, then a release

-- a test that each message passes which passes another
never : (m : Message) (xs : List Message) → false ≡ true → xs ≡ m ∷ xs
never m xs e = absurd cc

kept_out : (a : Bool) (m : Message) (xs : List Message) → (a ≡ true → false ≡ true) → xs ≡ (if a then m ∷ xs else xs)
kept_out true m xs f = never m xs (f refl)
kept_out false m xs f = refl

through : (f : Message → Bool) (b : Bool) (m : Message) (xs : List Message) → (f m ≡ true → b ≡ true)
    → filter f (if b then m ∷ xs else xs) ≡ (if f m then m ∷ filter f xs else filter f xs)
through f true m xs h = refl
through f false m xs h = kept_out (f m) m (filter f xs) h

all-through : (f g : Message → Bool) (ms : List Message) → ((m : Message) → f m ≡ true → g m ≡ true) → filter f (filter g ms) ≡ filter f ms
all-through f g [] h = refl
all-through f g (m ∷ ms) h =
    through f (g m) m (filter g ms) (h m)
    ∙ ap (λ (xs : List Message). if f m then m ∷ xs else xs) (all-through f g ms h)

pub moved_first : moved_before_held
moved_first c p qs failed link number of_flow apart there h =
    let n : Node WholeQueues = record { queues = whole.completed qs failed number; parts = p } in
    let other : queue_at n.queues link ≡ queue_at qs link = (others_left qs failed number).0 link apart in
    ap (filter of_flow) ((order_kept c n).1 link (omega (arith, there, length-set qs.links failed (emptied (queue_at qs failed)))))
    ∙ filter-append of_flow (queue_at n.queues link).all (filter (goes_on_by c p link) n.queues.held)
    ∙ ap (λ (q : Queue). filter of_flow q.all ++ filter of_flow (filter (goes_on_by c p link) n.queues.held)) other
    ∙ ap (λ (xs : List Message). filter of_flow (queue_at qs link).all ++ xs)
    (all-through of_flow (goes_on_by c p link) n.queues.held h ∙ (others_left qs failed number).1 of_flow)
