-- What was said stays said, and lists of chunks.
use Rattle.std.proofs.Common.{◌≡◌, ◌≤◌, inl, inr, ℕ, ◌+◌, arith, List, [], ◌∷◌, ◌++◌, length, refl, ap, sym, ◌∙◌, subst}
use Rattle.std.specs.List.{Contains}
use Rattle.std.proofs.lemmas.List.Elements.{Contains-append_right}
use Rattle.sctp_codec.specs.Packets as packets
use Rattle.sctp_codec.specs.Packets.{ChunkValue, DataValue}
use Rattle.sctp_rules.specs.Settings.{Secrets}
use Rattle.sctp_rules.specs.State.{Datagram}
use Rattle.sctp_moves.specs.Numbers.{window}
use Rattle.sctp_moves.specs.Ends.{Name, Answer, Cookie, Chunk, Acknowledgement, Epoch, End}
use Rattle.sctp_moves.proofs.Members.{contains-from, in-from, In}
use Rattle.sctp_ends.specs.Said.{Each, load, Age, since, never, Bundles, Begins, IsData, IsAck, IsSaid, AreSaid}
use Rattle.sctp_ends.specs.Shown.{IsPlain, Stage, Off, Waiting, Echoing, There, Waits}

-- ---- lists

pub first-in : {X : Type 0} (x : X) (xs : List X) → Contains (x ∷ xs) x
first-in x xs = contains-from (x ∷ xs) x (inl refl)

pub more-in : {X : Type 0} (y : X) (xs : List X) (x : X) → Contains xs x → Contains (y ∷ xs) x
more-in y xs x c = Contains-append_right (y ∷ []) xs x c

pub each-append : {A : Type 0} (P : A → Type 0) (xs ys : List A) → Each P xs → Each P ys → Each P (xs ++ ys)
each-append P [] ys h g = g
each-append P (x ∷ xs) ys h g = (h.0, each-append P xs ys h.1 g)

pub each-weaker : {A : Type 0} (P Q : A → Type 0) → ((x : A) → P x → Q x) → (xs : List A) → Each P xs → Each Q xs
each-weaker P Q f [] h = tt
each-weaker P Q f (x ∷ xs) h = (f x h.0, each-weaker P Q f xs h.1)

each-in : {A : Type 0} (P : A → Type 0) (xs : List A) → Each P xs → (x : A) → In x xs → P x
each-in P [] h x m = absurd m
each-in P (y ∷ ys) h x (inl e) = subst P (sym e) h.0
each-in P (y ∷ ys) h x (inr m) = each-in P ys h.1 x m

pub each-contains : {A : Type 0} (P : A → Type 0) (xs : List A) → Each P xs → (x : A) → Contains xs x → P x
each-contains P xs h x c = each-in P xs h x (in-from xs x c)

-- ---- what was put out stays

-- what an epoch sent and received is no more than it was before, and what the load grew by
pub data IsGrown (e f : End) (later : Epoch) : Type 0 where
  grows_from :
      (epoch : Epoch) → Contains e.epochs epoch → epoch.far.tag ≡ later.far.tag →
      length later.sent + load e.epochs ≤ length epoch.sent + load f.epochs →
      length later.received + load e.epochs ≤ length epoch.received + load f.epochs → IsGrown e f later
  grows_new :
      length later.sent + load e.epochs ≤ load f.epochs → length later.received + load e.epochs ≤ load f.epochs →
      IsGrown e f later

pub record IsMore (e f : End) : Type 0 where
  pub inits : (n : Name) → Contains e.inits n → Contains f.inits n
  pub answers : (a : Answer) → Contains e.answers a → Contains f.answers a
  pub echoes : (c : Cookie) → Contains e.echoes c → Contains f.echoes c
  pub cookie_acks : (tag : ℕ) → Contains e.cookie_acks tag → Contains f.cookie_acks tag
  pub chunks : (d : Chunk) → Contains e.chunks d → Contains f.chunks d
  pub acks : (a : Acknowledgement) → Contains e.acks a → Contains f.acks a
  pub heavier : load e.epochs ≤ load f.epochs
  pub grown : (epoch : Epoch) → Contains f.epochs epoch → IsGrown e f epoch

pub more-same : (e : End) → IsMore e e
more-same e = record {
  inits = λ n c. c;
  answers = λ a c. c;
  echoes = λ c i. i;
  cookie_acks = λ t c. c;
  chunks = λ t c. c;
  acks = λ t c. c;
  heavier = omega arith;
  grown = λ g i. grows_from g i refl (omega arith) (omega arith);
}

-- an end with the same associations
pub more-of : (e f : End) → e.epochs ≡ f.epochs → ((n : Name) → Contains e.inits n → Contains f.inits n) →
    ((a : Answer) → Contains e.answers a → Contains f.answers a) → ((c : Cookie) → Contains e.echoes c → Contains f.echoes c) →
    ((tag : ℕ) → Contains e.cookie_acks tag → Contains f.cookie_acks tag) → ((d : Chunk) → Contains e.chunks d → Contains f.chunks d) →
    ((a : Acknowledgement) → Contains e.acks a → Contains f.acks a) → IsMore e f
more-of e f is inits answers echoes cookie_acks chunks acks =
    let heavy : load e.epochs ≡ load f.epochs = ap load is in
    record {
      inits = inits;
      answers = answers;
      echoes = echoes;
      cookie_acks = cookie_acks;
      chunks = chunks;
      acks = acks;
      heavier = omega (arith, heavy);
      grown = λ g i. grows_from g (subst (λ (es : List Epoch). Contains es g) (sym is) i) refl (omega (arith, heavy)) (omega (arith, heavy));
    }

grown-behind : (e f h : End) (epoch : Epoch) → IsMore e f → load f.epochs ≤ load h.epochs → IsGrown f h epoch → IsGrown e h epoch
grown-behind e f h epoch m heavy (grows_new a b) =
    let more : load e.epochs ≤ load f.epochs = m.heavier in
    grows_new (omega (arith, a, more)) (omega (arith, b, more))
grown-behind e f h epoch m heavy (grows_from g i t a b) = by (m.grown g i) where
  by : IsGrown e f g → IsGrown e h epoch
  by (grows_new c d) = grows_new (omega (arith, a, c)) (omega (arith, b, d))
  by (grows_from k j u c d) = grows_from k j (u ∙ t) (omega (arith, a, c)) (omega (arith, b, d))

pub more-behind : (e f g : End) → IsMore e f → IsMore f g → IsMore e g
more-behind e f g m n = record {
  inits = λ x c. n.inits x (m.inits x c);
  answers = λ x c. n.answers x (m.answers x c);
  echoes = λ x c. n.echoes x (m.echoes x c);
  cookie_acks = λ x c. n.cookie_acks x (m.cookie_acks x c);
  chunks = λ x c. n.chunks x (m.chunks x c);
  acks = λ x c. n.acks x (m.acks x c);
  heavier = omega (arith, m.heavier, n.heavier);
  grown = λ x i. grown-behind e f g x m n.heavier (n.grown x i);
}

-- what was made since a mark was so still
since-chunk : (mark : ℕ) (e f : End) → IsMore e f → mark ≤ load e.epochs → (d : Chunk) → (since mark e).chunk d → (since mark f).chunk d
since-chunk mark e f m late d h later i t = by (m.grown later i) where
  by : IsGrown e f later → length later.sent + mark ≤ d.place + window + load f.epochs
  by (grows_new c a) = omega (arith, c, late)
  by (grows_from g j u c a) = let b : length g.sent + mark ≤ d.place + window + load e.epochs = h g j (u ∙ t) in omega (arith, c, b)

since-ack : (mark : ℕ) (e f : End) → IsMore e f → mark ≤ load e.epochs → (a : Acknowledgement) → (since mark e).ack a → (since mark f).ack a
since-ack mark e f m late a h later i t = by (m.grown later i) where
  by : IsGrown e f later → length later.received + mark ≤ a.count + load f.epochs
  by (grows_new c d) = omega (arith, d, late)
  by (grows_from g j u c d) = let b : length g.received + mark ≤ a.count + load e.epochs = h g j (u ∙ t) in omega (arith, d, b)

-- what holds of the age of what one end put out, and of another
pub record Older (age later : Age) (e f : End) : Type 0 where
  pub inits : (n : Name) → Contains e.inits n → Contains f.inits n
  pub answers : (a : Answer) → Contains e.answers a → Contains f.answers a
  pub echoes : (c : Cookie) → Contains e.echoes c → Contains f.echoes c
  pub cookie_acks : (tag : ℕ) → Contains e.cookie_acks tag → Contains f.cookie_acks tag
  pub chunks : (d : Chunk) → Contains e.chunks d → Contains f.chunks d
  pub acks : (a : Acknowledgement) → Contains e.acks a → Contains f.acks a
  pub chunk : (d : Chunk) → age.chunk d → later.chunk d
  pub ack : (a : Acknowledgement) → age.ack a → later.ack a

pub older : (mark : ℕ) (e f : End) → IsMore e f → mark ≤ load e.epochs → Older (since mark e) (since mark f) e f
older mark e f m late = record {
  inits = m.inits;
  answers = m.answers;
  echoes = m.echoes;
  cookie_acks = m.cookie_acks;
  chunks = m.chunks;
  acks = m.acks;
  chunk = since-chunk mark e f m late;
  ack = since-ack mark e f m late;
}

module _ (age later : Age) (e f : End) (m : Older age later e f) where
  data-older : (tag : ℕ) (d : DataValue) → IsData age e tag d → IsData later f tag d
  data-older tag d b = record {
    begins = b.begins;
    ends = b.ends;
    stream = b.stream;
    octets = b.octets;
    place = b.place;
    there = m.chunks _ b.there;
    aged = m.chunk _ b.aged;
  }

  ack-older : (tag cumulative : ℕ) → IsAck age e tag cumulative → IsAck later f tag cumulative
  ack-older tag cumulative b = record { count = b.count; there = m.acks _ b.there; aged = m.ack _ b.aged }

  pub bundles-older : (tag : ℕ) (chunk : ChunkValue) → Bundles age e tag chunk → Bundles later f tag chunk
  bundles-older tag (packets.InitChunk init) b = b
  bundles-older tag (packets.InitAckChunk init) b = b
  bundles-older tag (packets.CookieEchoChunk octets) b = b
  bundles-older tag packets.CookieAckChunk b = m.cookie_acks tag b
  bundles-older tag (packets.DataChunk carried) b = data-older tag carried b
  bundles-older tag (packets.SackChunk sack) b = ack-older tag sack.cumulative b
  bundles-older tag (packets.ShutdownChunk cumulative) b = ack-older tag cumulative b
  bundles-older tag (packets.HeartbeatChunk information) b = b
  bundles-older tag (packets.HeartbeatAckChunk information) b = b
  bundles-older tag (packets.AbortChunk is_reflected causes) b = b
  bundles-older tag packets.ShutdownAckChunk b = b
  bundles-older tag (packets.ErrorChunk causes) b = b
  bundles-older tag (packets.ShutdownCompleteChunk is_reflected) b = b
  bundles-older tag (packets.UnknownChunk kind flags value) b = b
  bundles-older tag (packets.MalformedChunk kind) b = b

  module _ (own far : Secrets) where
    begins-older : (tag : ℕ) (chunk : ChunkValue) → Begins own far age e tag chunk → Begins own far later f tag chunk
    begins-older tag (packets.InitChunk init) b = m.inits _ b
    begins-older tag (packets.InitAckChunk init) b = record { cookie = b.cookie; signed = b.signed; there = m.answers _ b.there }
    begins-older tag (packets.CookieEchoChunk octets) b = record { cookie = b.cookie; signed = b.signed; there = m.echoes _ b.there }
    begins-older tag packets.CookieAckChunk b = m.cookie_acks tag b
    begins-older tag (packets.DataChunk carried) b = data-older tag carried b
    begins-older tag (packets.SackChunk sack) b = ack-older tag sack.cumulative b
    begins-older tag (packets.ShutdownChunk cumulative) b = ack-older tag cumulative b
    begins-older tag (packets.HeartbeatChunk information) b = b
    begins-older tag (packets.HeartbeatAckChunk information) b = b
    begins-older tag (packets.AbortChunk is_reflected causes) b = b
    begins-older tag packets.ShutdownAckChunk b = b
    begins-older tag (packets.ErrorChunk causes) b = b
    begins-older tag (packets.ShutdownCompleteChunk is_reflected) b = b
    begins-older tag (packets.UnknownChunk kind flags value) b = b
    begins-older tag (packets.MalformedChunk kind) b = b

    pub said-older : (tag : ℕ) (chunks : List ChunkValue) → IsSaid own far age e tag chunks → IsSaid own far later f tag chunks
    said-older tag [] h = tt
    said-older tag (first ∷ more) h =
        (begins-older tag first h.0, each-weaker (Bundles age e tag) (Bundles later f tag) (bundles-older tag) more h.1)

pub more-bundles : (mark : ℕ) (e f : End) → IsMore e f → mark ≤ load e.epochs → (tag : ℕ) (chunk : ChunkValue) →
    Bundles (since mark e) e tag chunk → Bundles (since mark f) f tag chunk
more-bundles mark e f m late tag chunk b = bundles-older (since mark e) (since mark f) e f (older mark e f m late) tag chunk b

module _ (own far : Secrets) where
  pub more-said : (mark : ℕ) (e f : End) → IsMore e f → mark ≤ load e.epochs → (tag : ℕ) (chunks : List ChunkValue) →
      IsSaid own far (since mark e) e tag chunks → IsSaid own far (since mark f) f tag chunks
  more-said mark e f m late tag chunks h = said-older (since mark e) (since mark f) e f (older mark e f m late) own far tag chunks h

  pub more-all-said : (mark : ℕ) (e f : End) → IsMore e f → mark ≤ load e.epochs → (sent : List Datagram) →
      AreSaid own far mark e sent → AreSaid own far mark f sent
  more-all-said mark e f m late sent h =
      each-weaker (λ (d : Datagram). IsSaid own far (since mark e) e d.packet.tag d.packet.chunks)
      (λ (d : Datagram). IsSaid own far (since mark f) f d.packet.tag d.packet.chunks)
      (λ d g. more-said mark e f m late d.packet.tag d.packet.chunks g) sent h

  -- a packet with neither DATA nor acknowledgements
  pub more-never : (e f : End) → IsMore e f → (tag : ℕ) (chunks : List ChunkValue) → IsSaid own far never e tag chunks → IsSaid own far never f tag chunks
  more-never e f m tag chunks h =
      said-older never never e f
      (record {
        inits = m.inits;
        answers = m.answers;
        echoes = m.echoes;
        cookie_acks = m.cookie_acks;
        chunks = m.chunks;
        acks = m.acks;
        chunk = λ d b. b;
        ack = λ a b. b;
      }) own far tag chunks h

  pub never-any : (age : Age) (e : End) (tag : ℕ) (chunks : List ChunkValue) → IsSaid own far never e tag chunks → IsSaid own far age e tag chunks
  never-any age e tag chunks h =
      said-older never age e e
      (record {
        inits = λ n i. i;
        answers = λ n i. i;
        echoes = λ n i. i;
        cookie_acks = λ n i. i;
        chunks = λ n i. i;
        acks = λ n i. i;
        chunk = λ d b. absurd b;
        ack = λ a b. absurd b;
      }) own far tag chunks h

  pub begins-bundled : (age : Age) (e : End) (tag : ℕ) (chunk : ChunkValue) → Bundles age e tag chunk → Begins own far age e tag chunk
  begins-bundled age e tag (packets.InitChunk init) b = absurd b
  begins-bundled age e tag (packets.InitAckChunk init) b = absurd b
  begins-bundled age e tag (packets.CookieEchoChunk octets) b = absurd b
  begins-bundled age e tag packets.CookieAckChunk b = b
  begins-bundled age e tag (packets.DataChunk carried) b = b
  begins-bundled age e tag (packets.SackChunk sack) b = b
  begins-bundled age e tag (packets.ShutdownChunk cumulative) b = b
  begins-bundled age e tag (packets.HeartbeatChunk information) b = b
  begins-bundled age e tag (packets.HeartbeatAckChunk information) b = b
  begins-bundled age e tag (packets.AbortChunk is_reflected causes) b = b
  begins-bundled age e tag packets.ShutdownAckChunk b = b
  begins-bundled age e tag (packets.ErrorChunk causes) b = b
  begins-bundled age e tag (packets.ShutdownCompleteChunk is_reflected) b = b
  begins-bundled age e tag (packets.UnknownChunk kind flags value) b = b
  begins-bundled age e tag (packets.MalformedChunk kind) b = b

  -- a packet of chunks that stand together
  pub said-bundled : (age : Age) (e : End) (tag : ℕ) (chunks : List ChunkValue) → Each (Bundles age e tag) chunks → IsSaid own far age e tag chunks
  said-bundled age e tag [] h = tt
  said-bundled age e tag (first ∷ more) h = (begins-bundled age e tag first h.0, h.1)

-- ---- chunks that wait

pub plain-bundled : (age : Age) (e : End) (tag : ℕ) (chunk : ChunkValue) → IsPlain chunk → Bundles age e tag chunk
plain-bundled age e tag (packets.InitChunk init) b = b
plain-bundled age e tag (packets.InitAckChunk init) b = b
plain-bundled age e tag (packets.CookieEchoChunk octets) b = b
plain-bundled age e tag packets.CookieAckChunk b = absurd b
plain-bundled age e tag (packets.DataChunk carried) b = absurd b
plain-bundled age e tag (packets.SackChunk sack) b = absurd b
plain-bundled age e tag (packets.ShutdownChunk cumulative) b = absurd b
plain-bundled age e tag (packets.HeartbeatChunk information) b = b
plain-bundled age e tag (packets.HeartbeatAckChunk information) b = b
plain-bundled age e tag (packets.AbortChunk is_reflected causes) b = b
plain-bundled age e tag packets.ShutdownAckChunk b = b
plain-bundled age e tag (packets.ErrorChunk causes) b = b
plain-bundled age e tag (packets.ShutdownCompleteChunk is_reflected) b = b
plain-bundled age e tag (packets.UnknownChunk kind flags value) b = b
plain-bundled age e tag (packets.MalformedChunk kind) b = b

pub waits-bundled : (stage : Stage) (mark : ℕ) (e : End) (tag : ℕ) (chunk : ChunkValue) → Waits stage mark e tag chunk → Bundles (since mark e) e tag chunk
waits-bundled Off mark e tag chunk w = plain-bundled (since mark e) e tag chunk w
waits-bundled Waiting mark e tag chunk w = plain-bundled (since mark e) e tag chunk w
waits-bundled Echoing mark e tag chunk w = plain-bundled (since mark e) e tag chunk w
waits-bundled There mark e tag chunk w = w

pub plain-waits : (stage : Stage) (mark : ℕ) (e : End) (tag : ℕ) (chunk : ChunkValue) → IsPlain chunk → Waits stage mark e tag chunk
plain-waits Off mark e tag chunk p = p
plain-waits Waiting mark e tag chunk p = p
plain-waits Echoing mark e tag chunk p = p
plain-waits There mark e tag chunk p = plain-bundled (since mark e) e tag chunk p

pub more-waits : (mark : ℕ) (e f : End) → IsMore e f → mark ≤ load e.epochs → (stage : Stage) (tag : ℕ) (chunk : ChunkValue) →
    Waits stage mark e tag chunk → Waits stage mark f tag chunk
more-waits mark e f m late Off tag chunk w = w
more-waits mark e f m late Waiting tag chunk w = w
more-waits mark e f m late Echoing tag chunk w = w
more-waits mark e f m late There tag chunk w = more-bundles mark e f m late tag chunk w

-- the latest association changes, and is no lighter
pub replaced-more : (e f : End) (epoch after : Epoch) (past : List Epoch) → e.epochs ≡ epoch ∷ past → f.epochs ≡ after ∷ past →
    after.far ≡ epoch.far → length epoch.sent ≤ length after.sent → length epoch.received ≤ length after.received →
    ((n : Name) → Contains e.inits n → Contains f.inits n) → ((a : Answer) → Contains e.answers a → Contains f.answers a) →
    ((c : Cookie) → Contains e.echoes c → Contains f.echoes c) → ((tag : ℕ) → Contains e.cookie_acks tag → Contains f.cookie_acks tag) →
    ((d : Chunk) → Contains e.chunks d → Contains f.chunks d) → ((a : Acknowledgement) → Contains e.acks a → Contains f.acks a) → IsMore e f
replaced-more e f epoch after past was is far sent received inits answers echoes cookie_acks chunks acks =
    let before : load e.epochs ≡ load (epoch ∷ past) = ap load was in
    let later : load f.epochs ≡ load (after ∷ past) = ap load is in
    record {
      inits = inits;
      answers = answers;
      echoes = echoes;
      cookie_acks = cookie_acks;
      chunks = chunks;
      acks = acks;
      heavier = omega (arith, before, later, sent, received);
      grown = λ g i. by g (in-from (after ∷ past) g (subst (λ (es : List Epoch). Contains es g) is i)) before later;
    } where
      by : (g : Epoch) → In g (after ∷ past) → load e.epochs ≡ load (epoch ∷ past) → load f.epochs ≡ load (after ∷ past) → IsGrown e f g
      by g (inl same) before later =
          let s : length g.sent ≡ length after.sent = ap (λ (k : Epoch). length k.sent) same in
          let r : length g.received ≡ length after.received = ap (λ (k : Epoch). length k.received) same in
          grows_from epoch (subst (λ (es : List Epoch). Contains es epoch) (sym was) (first-in epoch past))
          (ap (λ (n : Name). n.tag) (sym far) ∙ ap (λ (k : Epoch). k.far.tag) (sym same))
          (omega (arith, before, later, sent, received, s, r)) (omega (arith, before, later, sent, received, s, r))
      by g (inr m) before later =
          grows_from g (subst (λ (es : List Epoch). Contains es g) (sym was) (more-in epoch past g (contains-from past g m))) refl
          (omega (arith, before, later, sent, received)) (omega (arith, before, later, sent, received))
