-- What is done at a node alone, of two that are alike: they stay so.
use Rattle.std.proofs.Common.{◌≡◌, ◌<◌, ◌≤◌, ℕ, Bool, true, false, List, [], ◌∷◌, ◌++◌, length, Option, Some, None, nat_eq, nat_lt, ap, sym, subst, ◌∙◌, arith, append-nil}
use Rattle.std.proofs.Math.Logic.{⊎_elim}
use Rattle.std.proofs.lemmas.Bool.{cases_lt}
use Rattle.std.proofs.lemmas.Bool.Decides.{nat_tests}
use Rattle.std.proofs.lemmas.List.{get_or_past, length-set}
use Rattle.std.specs.Prelude.{drop, if◌then◌else◌, slice_get, slice_index_or, slice_set, take, map}
use Rattle.std.specs.Option.{option_to_list}
use Rattle.signalling_types.specs.Message.{Message}
use Rattle.settings.specs.Configuration.{Configuration}
use Rattle.m2pa_codec.specs.Frames.{FrameValue, EmptyFrame, MessageFrame, StatusFrame, spelled}
use Rattle.exchange_rules.specs.Conserving.{brought_in}
use Rattle.exchange_rules.specs.Exchange.{outcome_of}
use Rattle.exchange_rules.specs.Queues.{whole}
use Rattle.exchange_rules.specs.Receiving.{new_message}
use Rattle.exchange_rules.specs.Sending.{after_take}
use Rattle.exchange_rules.specs.State.{Happening, CameUp, FrameCame, Submitted}
use Rattle.exchange_rules.specs.declared.wants.Wants.{Wants}
use Rattle.exchange_rules.specs.declared.wants.Wants.TheVariants.{Nothing, Open, Close}
use Rattle.node_moves.specs.Networks as nodes
use Rattle.node_moves.specs.Networks.{updated}
use Rattle.pair_rules.specs.Pairs.{in_flight, with_status_twice, without_data, without_status}
use Rattle.network_rules.specs.Networks.{NetworkNode, change_statuses, comes_up, deliver_frame, happens, is_led, opens_second, reaches, sends, submit}
use Rattle.node_law.specs.Alike.{came_by}
use Rattle.node_law.proofs.Lists.{first-inside, none-past, set-alike}
use Rattle.node_law.proofs.Streams.{AreSilent, IsSilent, silent-brings, silent-drop, silent-first, silent-new, silent-twice, silent-behind, silent-spelled}
use Rattle.node_law.proofs.Frames.{Fits}
use Rattle.node_law.proofs.Same.{AreSameBooks, AreWithin, IsSame, IsSameExchange, IsSameFlight, came-more, same-after, same-brought, same-new, same-taken, state_at, within-more}

pub silent-set : (f : ℕ → List (List ℕ)) (link : ℕ) (texts : List (List ℕ)) → AreSilent texts → ((j : ℕ) → AreSilent (f j)) → (j : ℕ) → AreSilent (updated f link texts j)
silent-set f link texts quiet each j = by (nat_eq j link)
  where
    by : (q : Bool) → AreSilent (if q then texts else f j)
    by true = quiet
    by false = each j

module _ (c : Configuration) (x : NetworkNode) (y : nodes.NetworkNode) (h : IsSame c x y) where
  abbrev e : IsSameExchange c x.exchange y.node
  e = h.exchange

  abbrev n : ℕ
  n = length c.links

  abbrev f : IsSameFlight n x.incoming x.following y.statuses y.user_data y.follows
  f = h.flight

  abbrev b : AreSameBooks n x.accepted x.arrived y.accepted y.came
  b = h.books

  -- ---- streams

  with-statuses : (link : ℕ) (texts : List (List ℕ)) → link < n → AreSilent texts
      → IsSameFlight n (record x.incoming { statuses = slice_set x.incoming.statuses link texts }) x.following (updated y.statuses link texts) y.user_data y.follows
  with-statuses link texts inside quiet = record {
    status_links = length-set x.incoming.statuses link texts ∙ f.status_links;
    data_links = f.data_links;
    following_links = f.following_links;
    statuses = set-alike x.incoming.statuses y.statuses link texts [] (omega (arith, inside, f.status_links)) f.statuses;
    user_data = f.user_data;
    follows = f.follows;
    silent = silent-set y.statuses link texts quiet f.silent;
  }

  with-data : (link : ℕ) (texts : List (List ℕ)) → link < n
      → IsSameFlight n (record x.incoming { user_data = slice_set x.incoming.user_data link texts }) x.following y.statuses (updated y.user_data link texts) y.follows
  with-data link texts inside = record {
    status_links = f.status_links;
    data_links = length-set x.incoming.user_data link texts ∙ f.data_links;
    following_links = f.following_links;
    statuses = f.statuses;
    user_data = set-alike x.incoming.user_data y.user_data link texts [] (omega (arith, inside, f.data_links)) f.user_data;
    follows = f.follows;
    silent = f.silent;
  }

  -- an empty link that may follow, or not
  with-following : (link : ℕ) (may : Bool) → link < n → IsSameFlight n x.incoming (slice_set x.following link may) y.statuses y.user_data (updated y.follows link may)
  with-following link may inside = record {
    status_links = f.status_links;
    data_links = f.data_links;
    following_links = length-set x.following link may ∙ f.following_links;
    statuses = f.statuses;
    user_data = f.user_data;
    follows = set-alike x.following y.follows link may false (omega (arith, inside, f.following_links)) f.follows;
    silent = f.silent;
  }

  with-empty : (link : ℕ) (may : Bool) → link < n
      → IsSameFlight n (record { statuses = slice_set x.incoming.statuses link []; user_data = slice_set x.incoming.user_data link [] }) (slice_set x.following link may)
      (updated y.statuses link []) (updated y.user_data link []) (updated y.follows link may)
  with-empty link may inside = record {
    status_links = length-set x.incoming.statuses link [] ∙ f.status_links;
    data_links = length-set x.incoming.user_data link [] ∙ f.data_links;
    following_links = length-set x.following link may ∙ f.following_links;
    statuses = set-alike x.incoming.statuses y.statuses link [] [] (omega (arith, inside, f.status_links)) f.statuses;
    user_data = set-alike x.incoming.user_data y.user_data link [] [] (omega (arith, inside, f.data_links)) f.user_data;
    follows = set-alike x.following y.follows link may false (omega (arith, inside, f.following_links)) f.follows;
    silent = silent-set y.statuses link [] tt f.silent;
  }

  -- the first text of a link
  pub next-same : (link : ℕ) (xs : List (List (List ℕ))) (ys : ℕ → List (List ℕ)) → length xs ≡ n → ((k : ℕ) → in_flight xs k ≡ ys k) → nodes.next_in c link (ys link) ≡ slice_get (in_flight xs link) 0
  next-same link xs ys places same =
      ⊎_elim
      (λ (inside : link < n).
      ap (λ (q : Bool). if q then slice_get (ys link) 0 else None) (is-inside link (n) inside) ∙ ap (λ (ts : List (List ℕ)). slice_get ts 0) (sym (same link)))
      (λ (past : n ≤ link).
      ap (λ (q : Bool). if q then slice_get (ys link) 0 else None) (is-past link (n) past) ∙ sym (none-past xs link (omega (arith, past, places))))
      (cases_lt link (n))
    where
      is-inside : (k n : ℕ) → k < n → nat_lt k n ≡ true
      is-inside k n l = grind (arith, nat_tests, l)

      is-past : (k n : ℕ) → n ≤ k → nat_lt k n ≡ false
      is-past k n l = grind (arith, nat_tests, l)

  -- ---- what happens

  pub same-happens : (what : Happening) → IsSame c (happens what x) (nodes.happens c what y)
  same-happens what = record { exchange = same-after c x.exchange y.node e what; flight = f; books = b }

  pub same-submit : (m : Message) → IsSame c (submit m x) (nodes.hand_over c m y)
  same-submit m = record {
    exchange = same-after c x.exchange y.node e (Submitted m);
    flight = f;
    books = record {
      taken = ap (λ (ms : List Message). ms ++ brought_in (Submitted m) x.exchange) b.taken ∙ ap (λ (ms : List Message). y.accepted ++ ms) (same-brought c x.exchange y.node e (Submitted m));
      came = b.came;
      within = b.within;
    };
  }

  data-heard : (link : ℕ) (text : List ℕ) → link < n → IsSame c (deliver_frame (Some text) link (without_data link x.incoming) x) (nodes.hear_data c (Some text) link y)
  data-heard link text inside =
      let new : Option Message = new_message link text x.exchange in
      let same : new ≡ new_message link text (state_at c y.node) = same-new c x.exchange y.node e link text in
      record {
        exchange = same-after c x.exchange y.node e (FrameCame link text);
        flight = subst (λ (ts : List (List ℕ)). IsSameFlight n (record x.incoming { user_data = slice_set x.incoming.user_data link (drop 1 (in_flight x.incoming.user_data link)) }) x.following y.statuses
            (updated y.user_data link (drop 1 ts)) y.follows) (f.user_data link) (with-data link (drop 1 (in_flight x.incoming.user_data link)) inside);
        books = record {
          taken = ap (λ (ms : List Message). ms ++ brought_in (FrameCame link text) x.exchange) b.taken ∙ ap (λ (ms : List Message). y.accepted ++ ms) (same-brought c x.exchange y.node e (FrameCame link text));
          came = subst (λ (o : Option Message). (j : ℕ) → came_by j (x.arrived ++ map (λ m. record { link = link; message = m }) (option_to_list new))
              ≡ nodes.messages_of (updated y.came link (y.came link ++ map (λ m. record { message = m; outcome = outcome_of whole (FrameCame link text) (state_at c y.node) }) (option_to_list o)) j)) same
              (came-more x.arrived y.came link new (outcome_of whole (FrameCame link text) (state_at c y.node)) b.came);
          within = within-more (n) x.arrived link new inside b.within;
        };
      }

  pub same-data : (link : ℕ) (o : Option (List ℕ)) → slice_get (in_flight x.incoming.user_data link) 0 ≡ o → IsSame c (deliver_frame o link (without_data link x.incoming) x) (nodes.hear_data c o link y)
  same-data link None g = h
  same-data link (Some text) g = data-heard link text (let less : link < length x.incoming.user_data = first-inside x.incoming.user_data link text g in omega (arith, less, f.data_links))

  -- ---- link statuses

  module _ (link : ℕ) (text : List ℕ) (quiet : IsSilent text) where
    none-arrives : x.arrived ++ map (λ m. record { link = link; message = m }) (option_to_list (new_message link text x.exchange)) ≡ x.arrived
    none-arrives =
        ap (λ (o : Option Message). x.arrived ++ map (λ m. record { link = link; message = m }) (option_to_list o)) (silent-new link text x.exchange quiet) ∙ append-nil x.arrived

    same-booked : AreSameBooks n (x.accepted ++ brought_in (FrameCame link text) x.exchange)
        (x.arrived ++ map (λ m. record { link = link; message = m }) (option_to_list (new_message link text x.exchange))) y.accepted y.came
    same-booked = record {
      taken = ap (λ (ms : List Message). x.accepted ++ ms) (silent-brings link text x.exchange quiet) ∙ append-nil x.accepted ∙ b.taken;
      came = λ j. ap (came_by j) none-arrives ∙ b.came j;
      within = subst (AreWithin (n)) (sym none-arrives) b.within;
    }

  -- the streams after the first status of a link
  status-left : (link : ℕ) (left : List (List ℕ) → List (List ℕ)) → link < n → in_flight x.incoming.statuses link ≡ y.statuses link → AreSilent (left (y.statuses link))
      → IsSameFlight n (record x.incoming { statuses = slice_set x.incoming.statuses link (left (in_flight x.incoming.statuses link)) }) x.following (updated y.statuses link (left (y.statuses link))) y.user_data y.follows
  status-left link left inside same quiet =
      subst (λ (ts : List (List ℕ)). IsSameFlight n (record x.incoming { statuses = slice_set x.incoming.statuses link (left ts) }) x.following (updated y.statuses link (left (y.statuses link))) y.user_data y.follows)
      (sym same) (with-statuses link (left (y.statuses link)) inside quiet)

  first-quiet : (link : ℕ) (text : List ℕ) → slice_get (in_flight x.incoming.statuses link) 0 ≡ Some text → IsSilent text
  first-quiet link text g = silent-first (y.statuses link) text (f.silent link) (ap (λ (ts : List (List ℕ)). slice_get ts 0) (sym (f.statuses link)) ∙ g)

  status-inside : (link : ℕ) (text : List ℕ) → slice_get (in_flight x.incoming.statuses link) 0 ≡ Some text → link < n
  status-inside link text g = (let less : link < length x.incoming.statuses = first-inside x.incoming.statuses link text g in omega (arith, less, f.status_links))

  pub same-status : (link : ℕ) (o : Option (List ℕ)) → slice_get (in_flight x.incoming.statuses link) 0 ≡ o → IsSame c (deliver_frame o link (without_status link x.incoming) x) (nodes.hear_status c o link y)
  same-status link None g = h
  same-status link (Some text) g = record {
    exchange = same-after c x.exchange y.node e (FrameCame link text);
    flight = status-left link (drop 1) (status-inside link text g) (f.statuses link) (silent-drop (y.statuses link) (f.silent link));
    books = same-booked link text (first-quiet link text g);
  }

  pub same-lost : (link : ℕ) (o : Option (List ℕ)) → slice_get (in_flight x.incoming.statuses link) 0 ≡ o
      → IsSame c (change_statuses o (without_status link x.incoming) x) (nodes.with_statuses o link (drop 1 (y.statuses link)) y)
  same-lost link None g = h
  same-lost link (Some text) g = record {
    exchange = e;
    flight = status-left link (drop 1) (status-inside link text g) (f.statuses link) (silent-drop (y.statuses link) (f.silent link));
    books = b;
  }

  pub same-doubled : (link : ℕ) (o : Option (List ℕ)) → slice_get (in_flight x.incoming.statuses link) 0 ≡ o
      → IsSame c (change_statuses o (with_status_twice link x.incoming) x) (nodes.with_statuses o link (take 1 (y.statuses link) ++ y.statuses link) y)
  same-doubled link None g = h
  same-doubled link (Some text) g = record {
    exchange = e;
    flight = status-left link (λ ts. take 1 ts ++ ts) (status-inside link text g) (f.statuses link) (silent-twice (y.statuses link) (f.silent link));
    books = b;
  }

  -- ---- openings

  follow-inside : (link : ℕ) → slice_index_or x.following link false ≡ true → link < n
  follow-inside link g =
      ⊎_elim
      (λ (inside : link < n). inside)
      (λ (past : n ≤ link).
      let none : false ≡ true = sym (get_or_past x.following link false (omega (arith, past, f.following_links))) ∙ g in
      absurd cc)
      (cases_lt link (n))

  pub same-second : (link : ℕ) (wants : Wants) (may : Bool) → slice_index_or x.following link false ≡ may → IsSame c (opens_second wants may link x) (nodes.follow c wants may link y)
  same-second link Open true g = record { exchange = same-after c x.exchange y.node e (CameUp link); flight = with-following link false (follow-inside link g); books = b }
  same-second link Open false g = h
  same-second link Nothing may g = h
  same-second link Close may g = h

  pub same-up : (link : ℕ) → link < n → IsSame c (comes_up link x) (nodes.come_up c link y)
  same-up link inside = record { exchange = same-after c x.exchange y.node e (CameUp link); flight = with-empty link false inside; books = b }

  pub same-led : (link : ℕ) → link < n → IsSame c (is_led link x) (nodes.be_led link y)
  same-led link inside = record { exchange = e; flight = with-empty link true inside; books = b }

  -- ---- frames that go out

  data-behind : (link : ℕ) (text : List ℕ) → link < n
      → IsSameFlight n (record x.incoming { user_data = slice_set x.incoming.user_data link (in_flight x.incoming.user_data link ++ text ∷ []) }) x.following y.statuses
      (updated y.user_data link (y.user_data link ++ text ∷ [])) y.follows
  data-behind link text inside =
      subst (λ (ts : List (List ℕ)). IsSameFlight n (record x.incoming { user_data = slice_set x.incoming.user_data link (in_flight x.incoming.user_data link ++ text ∷ []) }) x.following y.statuses
      (updated y.user_data link (ts ++ text ∷ [])) y.follows) (f.user_data link) (with-data link (in_flight x.incoming.user_data link ++ text ∷ []) inside)

  pub same-sends : (link : ℕ) → IsSame c (sends link x) (record y { node = after_take whole c link y.node })
  same-sends link = record { exchange = same-taken c x.exchange y.node e link; flight = f; books = b }

  pub same-reaches : (frame : FrameValue) (link : ℕ) → link < n → Fits frame → IsSame c (reaches frame link x) (nodes.reach frame link y)
  same-reaches (StatusFrame bsn fsn status) link inside fits = record {
    exchange = e;
    flight = status-left link (λ ts. ts ++ spelled (StatusFrame bsn fsn status) ∷ []) inside (f.statuses link)
        (silent-behind (y.statuses link) (spelled (StatusFrame bsn fsn status)) (f.silent link) (silent-spelled bsn fsn status fits.0 fits.1));
    books = b;
  }
  same-reaches (EmptyFrame bsn fsn) link inside fits = record { exchange = e; flight = data-behind link (spelled (EmptyFrame bsn fsn)) inside; books = b }
  same-reaches (MessageFrame bsn fsn sio sif) link inside fits = record { exchange = e; flight = data-behind link (spelled (MessageFrame bsn fsn sio sif)) inside; books = b }
