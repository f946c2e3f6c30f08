-- A call of a gate of one of two nodes, each in its part of the nodes.
use Rattle.std.proofs.Common.{◌≡◌, ◌<◌, ◌&&◌, ◌++◌, ℕ, Bool, false, not, List, length, Option, Some, drop, nat_eq, nat_lt, take, ap, sym, subst, ◌∙◌}
use Rattle.std.specs.Prelude.{IfSome, slice_get, slice_index_or, slice_set}
use Rattle.exchange.specs.Calls.{StandsFor}
use Rattle.exchange_rules.specs.First.{Abstract}
use Rattle.node_world.specs.declared.call.Call.{Call}
use Rattle.node_world.specs.Kept.{KeptNode, KeptPlace, sent_at, sent_on, sent_there}
use Rattle.node_world.specs.Calls.{NodeCalls, NodesCall, is_made_to, is_there, octets_heard, told}
use Rattle.node_world.proofs.TwoPlaces.{got-back, got-front, set-back, set-front}

module _ (k : List KeptNode) (near link now : ℕ) (there : KeptPlace) (call : Call) (front back : List KeptNode) (dx dy new : KeptNode) where
  -- the node that is called is in the front
  module _ (front_is : front ≡ take there.place k) (back_is : back ≡ drop there.place k) (less : near < there.place) (near_in : near < length k) (far_in : there.place < length k) where
    pub called-front : ((a : Abstract) → StandsFor (slice_index_or front near dx).exchange a
        → NodeCalls link (told call (octets_heard call (sent_on (slice_index_or back 0 dy) there.link)) now) (slice_index_or front near dx) new a)
        → new.exchange.settings ≡ (slice_index_or front near dx).exchange.settings
        → NodesCall near link (told call (octets_heard call (sent_there k (Some there))) now) k (slice_set front near new ++ back)
    called-front calls same =
        let far_is : slice_get k there.place ≡ Some (slice_index_or back 0 dy) = got-back k there.place back dy back_is far_in in
        record {
          old = slice_index_or front near dx;
          new = new;
          old_is = got-front k near there.place front dx front_is less near_in;
          new_is =
              ap (λ (xs : List KeptNode). slice_set xs near new ++ back) front_is
              ∙ ap (λ (ys : List KeptNode). slice_set (take there.place k) near new ++ ys) back_is
              ∙ set-front k near there.place new less;
          calls = subst (λ (o : Option KeptNode). (a : Abstract) → StandsFor (slice_index_or front near dx).exchange a
              → NodeCalls link (told call (octets_heard call (sent_at o there.link)) now) (slice_index_or front near dx) new a) (sym far_is) calls;
          settings = same;
        }

  -- or at the head of the back
  module _ (front_is : front ≡ take near k) (back_is : back ≡ drop near k) (less : there.place < near) (near_in : near < length k) (far_in : there.place < length k) where
    far-is : slice_get k there.place ≡ Some (slice_index_or front there.place dy)
    far-is = got-front k there.place near front dy front_is less far_in

    near-is : slice_get k near ≡ Some (slice_index_or back 0 dx)
    near-is = got-back k near back dx back_is near_in

    pub called-back : ((a : Abstract) → StandsFor (slice_index_or back 0 dx).exchange a
        → NodeCalls link (told call (octets_heard call (sent_on (slice_index_or front there.place dy) there.link)) now) (slice_index_or back 0 dx) new a)
        → new.exchange.settings ≡ (slice_index_or back 0 dx).exchange.settings
        → NodesCall near link (told call (octets_heard call (sent_there k (Some there))) now) k (front ++ slice_set back 0 new)
    called-back calls same = record {
      old = slice_index_or back 0 dx;
      new = new;
      old_is = near-is;
      new_is =
          ap (λ (xs : List KeptNode). xs ++ slice_set back 0 new) front_is
          ∙ ap (λ (ys : List KeptNode). take near k ++ slice_set ys 0 new) back_is
          ∙ set-back k near new near_in;
      calls = subst (λ (o : Option KeptNode). (a : Abstract) → StandsFor (slice_index_or back 0 dx).exchange a
          → NodeCalls link (told call (octets_heard call (sent_at o there.link)) now) (slice_index_or back 0 dx) new a) (sym far-is) calls;
      settings = same;
    }

    pub answer-back : (done : Bool) → nat_eq near there.place ≡ false
        → done ≡ (nat_lt link (length (slice_index_or back 0 dx).ports) && is_there call (sent_on (slice_index_or front there.place dy) there.link))
        → IfSome (slice_get k near) (λ n. done ≡ is_made_to call near link k n (Some there))
    answer-back done apart e =
        let A : Bool = nat_lt link (length (slice_index_or back 0 dx).ports) in
        subst (λ (o : Option KeptNode). IfSome o (λ n. done ≡ is_made_to call near link k n (Some there))) (sym near-is)
        (e ∙ ap (λ (o : Option KeptNode). A && is_there call (sent_at o there.link)) (sym far-is)
        ∙ ap (λ (b : Bool). not b && (A && is_there call (sent_at (slice_get k there.place) there.link))) (sym apart))
