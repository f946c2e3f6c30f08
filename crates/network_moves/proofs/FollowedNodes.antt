-- Moves of the messages of a node are followed.
use Rattle.network_moves.proofs.Basics.{◌≡◌, ℕ, Bool, true, false, List, [], ◌∷◌, count_by, refl, ap, ◌∙◌, arith}
use Rattle.network_moves.proofs.Definitions.{Message, Saying, UserMessage, Other, is_user_message, user, Line, Node, Network, Shape, line_at, point_at, node_at, one_if, IsTakenFrom, with_message, Submits, Makes, Ends, GivesUp, Discards, Places}
use Rattle.network_moves.specs.Moves as moves
use Rattle.network_moves.specs.Groups.{KeepsToItself}
use Rattle.network_moves.proofs.Counts.{count-cons, count-append, count-one}
use Rattle.network_moves.proofs.Lines.{both}
use Rattle.network_moves.proofs.Words.{only-user, one-no_user}
use Rattle.network_moves.proofs.Masking.{node-set, line-set, within, is_of, masked, kept-saying, other-saying, of-saying, masked-managing, IsLike, IsMask}
use Rattle.network_moves.proofs.Apart.{stays, IsApart, apart-line, apart-node, says-none, here}
use Rattle.network_moves.proofs.Following.{edits-one, makes-one, discards-one, taken-like, Follows, Works, follows-line, follows-node}

-- ---- what becomes of a node

abbrev pub with_submitted : Message → Node → Node
with_submitted m n = record n { bag = m ∷ n.bag; submitted = m ∷ n.submitted; accepted = m ∷ n.accepted }

abbrev with_ended : Message → (rest : List Message) → Node → Node
with_ended m rest n = record n { bag = rest; ended = m ∷ n.ended }

abbrev with_gone : Message → (rest : List Message) → Node → Node
with_gone m rest n = record n { bag = rest; gone = m ∷ n.gone; named = m ∷ n.named }

module _ (shape : Shape) (read : Message → Saying) (group : ℕ → Bool) (for_group : Message → Bool) where
  -- a message that says nothing to the group is no user message for it
  pub one-none : (m : Message) → is_of shape read group for_group m ≡ false → (test : Message → Bool) → one_if (user (masked shape read group for_group) test m) ≡ 0
  one-none m e test = one-no_user (masked shape read group for_group) m (ap is_user_message (other-saying shape read group for_group m e)) test

  pub user-none : (m : Message) → is_user_message (read m) ≡ true → one_if (stays shape read group for_group false m) ≡ 0
  user-none m e = says-none shape read group for_group false m UserMessage (only-user (read m) e) refl

  pub is-user : (m : Message) → is_user_message (read m) ≡ true → is_of shape read group for_group m ≡ true → is_user_message (masked shape read group for_group m) ≡ true
  is-user m e f = ap is_user_message (kept-saying shape read group for_group m f) ∙ e

  module _ (p q k : Network) (a : IsApart shape read group for_group p) (h : IsMask shape read group for_group p k) where
    -- where fewer are in a bag, none is there
    pub left-none : (bag rest : List Message) (m : Message) → IsTakenFrom bag m rest → count_by (stays shape read group for_group false) bag ≡ 0 → count_by (stays shape read group for_group false) rest ≡ 0
    left-none bag rest m t none = omega (arith, t.counted (stays shape read group for_group false), none)

    pub follows-submits : Submits shape read p q → Follows shape read group for_group q k
    follows-submits m =
        follows-node shape read group for_group p q k m.point _ m.after
        (apart-node shape read group for_group p q m.point _ m.after.here m.after.lines m.after.others
        (λ none out. omega (arith, count-cons (stays shape read group for_group false) m.message (p.node m.point).bag, user-none m.message m.user, none)) a)
        h (λ inside like. by like (is_of shape read group for_group m.message) refl)
      where
        by : IsLike shape read group for_group (p.node m.point) (k.node m.point) → (b : Bool) → is_of shape read group for_group m.message ≡ b → Works shape read group for_group k m.point (with_submitted m.message (p.node m.point))
        by like true e = record {
          node = with_submitted m.message (k.node m.point);
          edits = edits-one shape read group for_group k m.point _ (moves.submits (record { point = m.point; message = m.message; user = is-user m.message m.user e; after = node-set shape k m.point _ m.after.inside }));
          like = record {
            bag = λ test. omega (arith, like.bag test, count-cons test m.message (k.node m.point).bag, count-cons test m.message (p.node m.point).bag);
            accepted = λ test.
                let t : Message → Bool = user (masked shape read group for_group) test in
                omega (arith, like.accepted test, count-cons t m.message (k.node m.point).accepted, count-cons t m.message (p.node m.point).accepted);
            ended = like.ended;
            gone = like.gone;
            named = like.named;
          };
        }
        by like false e = record {
          node = record (k.node m.point) { bag = m.message ∷ (k.node m.point).bag };
          edits = makes-one shape read group for_group k m.point (k.node m.point) m.message m.after.inside refl e;
          like = record {
            bag = λ test. omega (arith, like.bag test, count-cons test m.message (k.node m.point).bag, count-cons test m.message (p.node m.point).bag);
            accepted = λ test.
                omega (arith, like.accepted test, count-cons (user (masked shape read group for_group) test) m.message (p.node m.point).accepted, one-none m.message e test);
            ended = like.ended;
            gone = like.gone;
            named = like.named;
          };
        }

    pub follows-makes : Makes shape read p q → Follows shape read group for_group q k
    follows-makes m =
        follows-node shape read group for_group p q k m.point _ m.after
        (apart-node shape read group for_group p q m.point _ m.after.here m.after.lines m.after.others
        (λ none out. omega (arith, count-cons (stays shape read group for_group false) m.message (p.node m.point).bag, says-none shape read group for_group false m.message Other m.other refl, none)) a)
        h (λ inside like. record {
          node = record (k.node m.point) { bag = m.message ∷ (k.node m.point).bag };
          edits = makes-one shape read group for_group k m.point (k.node m.point) m.message m.after.inside refl (of-saying shape read group for_group m.message Other m.other);
          like = record {
            bag = λ test. omega (arith, like.bag test, count-cons test m.message (k.node m.point).bag, count-cons test m.message (p.node m.point).bag);
            accepted = like.accepted;
            ended = like.ended;
            gone = like.gone;
            named = like.named;
          };
        })

    pub follows-ends : Ends shape read p q → Follows shape read group for_group q k
    follows-ends m =
        follows-node shape read group for_group p q k m.point _ m.after
        (apart-node shape read group for_group p q m.point _ m.after.here m.after.lines m.after.others (λ none out. left-none (p.node m.point).bag m.rest m.message m.taken none) a)
        h (λ inside like. by like (is_of shape read group for_group m.message) refl)
      where
        t : (test : Message → Bool) → Message → Bool
        t test = user (masked shape read group for_group) test

        by : IsLike shape read group for_group (p.node m.point) (k.node m.point) → (b : Bool) → is_of shape read group for_group m.message ≡ b → Works shape read group for_group k m.point (with_ended m.message m.rest (p.node m.point))
        by like true e = record {
          node = with_ended m.message m.rest (k.node m.point);
          edits = edits-one shape read group for_group k m.point _ (moves.ends (record {
            point = m.point;
            message = m.message;
            rest = m.rest;
            taken = taken-like shape read group for_group (p.node m.point) (k.node m.point) m.message m.rest like m.taken;
            user = is-user m.message m.user e;
            after = node-set shape k m.point _ m.after.inside;
          }));
          like = record {
            bag = λ test. refl;
            accepted = like.accepted;
            ended = λ test. omega (arith, like.ended test, count-cons (t test) m.message (k.node m.point).ended, count-cons (t test) m.message (p.node m.point).ended);
            gone = like.gone;
            named = like.named;
          };
        }
        by like false e = record {
          node = record (k.node m.point) { bag = m.rest };
          edits = discards-one shape read group for_group k m.point (k.node m.point) m.message m.rest m.after.inside refl (taken-like shape read group for_group (p.node m.point) (k.node m.point) m.message m.rest like m.taken) e;
          like = record {
            bag = λ test. refl;
            accepted = like.accepted;
            ended = λ test. omega (arith, like.ended test, count-cons (t test) m.message (p.node m.point).ended, one-none m.message e test);
            gone = like.gone;
            named = like.named;
          };
        }

    pub follows-gives_up : GivesUp shape read p q → Follows shape read group for_group q k
    follows-gives_up m =
        follows-node shape read group for_group p q k m.point _ m.after
        (apart-node shape read group for_group p q m.point _ m.after.here m.after.lines m.after.others (λ none out. left-none (p.node m.point).bag m.rest m.message m.taken none) a)
        h (λ inside like. by like (is_of shape read group for_group m.message) refl)
      where
        t : (test : Message → Bool) → Message → Bool
        t test = user (masked shape read group for_group) test

        by : IsLike shape read group for_group (p.node m.point) (k.node m.point) → (b : Bool) → is_of shape read group for_group m.message ≡ b → Works shape read group for_group k m.point (with_gone m.message m.rest (p.node m.point))
        by like true e = record {
          node = with_gone m.message m.rest (k.node m.point);
          edits = edits-one shape read group for_group k m.point _ (moves.gives_up (record {
            point = m.point;
            message = m.message;
            rest = m.rest;
            taken = taken-like shape read group for_group (p.node m.point) (k.node m.point) m.message m.rest like m.taken;
            user = is-user m.message m.user e;
            after = node-set shape k m.point _ m.after.inside;
          }));
          like = record {
            bag = λ test. refl;
            accepted = like.accepted;
            ended = like.ended;
            gone = λ test. omega (arith, like.gone test, count-cons (t test) m.message (k.node m.point).gone, count-cons (t test) m.message (p.node m.point).gone);
            named = λ test. omega (arith, like.named test, count-cons (t test) m.message (k.node m.point).named, count-cons (t test) m.message (p.node m.point).named);
          };
        }
        by like false e = record {
          node = record (k.node m.point) { bag = m.rest };
          edits = discards-one shape read group for_group k m.point (k.node m.point) m.message m.rest m.after.inside refl (taken-like shape read group for_group (p.node m.point) (k.node m.point) m.message m.rest like m.taken) e;
          like = record {
            bag = λ test. refl;
            accepted = like.accepted;
            ended = like.ended;
            gone = λ test. omega (arith, like.gone test, count-cons (t test) m.message (p.node m.point).gone, one-none m.message e test);
            named = λ test. omega (arith, like.named test, count-cons (t test) m.message (p.node m.point).named, one-none m.message e test);
          };
        }

    pub follows-discards : Discards shape read p q → Follows shape read group for_group q k
    follows-discards m =
        follows-node shape read group for_group p q k m.point _ m.after
        (apart-node shape read group for_group p q m.point _ m.after.here m.after.lines m.after.others (λ none out. left-none (p.node m.point).bag m.rest m.message m.taken none) a)
        h (λ inside like. record {
          node = record (k.node m.point) { bag = m.rest };
          edits = edits-one shape read group for_group k m.point _ (moves.discards (record {
            point = m.point;
            message = m.message;
            rest = m.rest;
            taken = taken-like shape read group for_group (p.node m.point) (k.node m.point) m.message m.rest like m.taken;
            management = masked-managing shape read group for_group m.message m.management;
            after = node-set shape k m.point _ m.after.inside;
          }));
          like = record { bag = λ test. refl; accepted = like.accepted; ended = like.ended; gone = like.gone; named = like.named };
        })

    -- ---- onto a link

    -- what concerns a group that keeps to itself goes by no link that isn't within
    placed-none : (c : KeepsToItself shape read group for_group) (m : Places shape read p q) → within shape read group for_group m.place.link ≡ false → here shape read group for_group m.place ≡ true
        → is_of shape read group for_group m.message ≡ false
    placed-none c m out inside = by (is_of shape read group for_group m.message) refl
      where
        by : (b : Bool) → is_of shape read group for_group m.message ≡ b → b ≡ false
        by true e = both (c.stays m.place m.message inside m.leads e) out
        by false e = refl

    placed-apart : (c : KeepsToItself shape read group for_group) (m : Places shape read p q) → within shape read group for_group m.place.link ≡ false
        → one_if (stays shape read group for_group (here shape read group for_group m.place) m.message) ≡ 0
    placed-apart c m out = by (here shape read group for_group m.place) refl
      where
        by : (b : Bool) → here shape read group for_group m.place ≡ b → one_if (stays shape read group for_group b m.message) ≡ 0
        by true e = ap one_if (placed-none c m out e)
        by false e = omega (arith, m.taken.counted (stays shape read group for_group false), a.bags (point_at shape m.place) e)

    pub follows-places : KeepsToItself shape read group for_group → Places shape read p q → Follows shape read group for_group q k
    follows-places c m =
        let y : Line = line_at p m.place in
        follows-line shape read group for_group p q k m.place (with_message y m.message) _ m.after.lines m.after.here m.after.others a h
        (apart-line shape read group for_group p q m.place (with_message y m.message) _ m.after.lines m.after.here m.after.others
        (λ out l. record {
          near =
              (let t : Message → Bool = stays shape read group for_group (here shape read group for_group m.place) in
              omega (arith, count-append t y.near.queue.all (m.message ∷ []), count-one t m.message, placed-apart c m out, l.near));
          far = l.far;
          to_far = l.to_far;
          to_near = l.to_near;
        })
        (λ l none out. left-none (node_at shape p m.place).bag m.rest m.message m.taken none) a)
        (λ in_it e like. record {
          line = with_message (line_at k m.place) m.message;
          node = record (node_at shape k m.place) { bag = m.rest };
          move = moves.places (record {
            place = m.place;
            message = m.message;
            rest = m.rest;
            taken = taken-like shape read group for_group (node_at shape p m.place) (node_at shape k m.place) m.message m.rest like m.taken;
            serving = ap (λ (v : Line). v.near.serving) e ∙ m.serving;
            leads = m.leads;
            after = line-set shape k m.place _ _ m.after.lines.inside m.after.inside;
          });
          same = ap (λ (v : Line). with_message v m.message) e;
          like = record { bag = λ test. refl; accepted = like.accepted; ended = like.ended; gone = like.gone; named = like.named };
        })
        (λ out inside l like. record {
          node = record (node_at shape k m.place) { bag = m.rest };
          edits = discards-one shape read group for_group k (point_at shape m.place) (node_at shape k m.place) m.message m.rest m.after.inside refl
              (taken-like shape read group for_group (node_at shape p m.place) (node_at shape k m.place) m.message m.rest like m.taken) (placed-none c m out inside);
          like = record { bag = λ test. refl; accepted = like.accepted; ended = like.ended; gone = like.gone; named = like.named };
        })
