-- What a function tells that tells what address a text spells.
use Rattle.std.specs.declared.net.ip_addr.IpAddr.{IpAddr}
use Rattle.std.specs.Net.Grammar.{IsIpText}
use Rattle.settings_file.proofs.Basics.{◌≡◌, ℕ, List, Option, Some, None, refl, SocketAddr, IsSocketText, Spelling}

none-told : (s : Spelling) (text : List ℕ) (told : Option SocketAddr) → s.address text ≡ told → ((a : SocketAddr) → ¬ (IsSocketText text a)) → told ≡ None
none-told s text None is none = refl
none-told s text (Some a) is none = absurd (none a (s.sound text a is))

-- of a text that spells none
pub none-spelled : (s : Spelling) (text : List ℕ) → ((a : SocketAddr) → ¬ (IsSocketText text a)) → s.address text ≡ None
none-spelled s text none = none-told s text _ refl none

none-told_host : (s : Spelling) (text : List ℕ) (told : Option IpAddr) → s.host text ≡ told → ((a : IpAddr) → ¬ (IsIpText text a)) → told ≡ None
none-told_host s text None is none = refl
none-told_host s text (Some a) is none = absurd (none a (s.host_sound text a is))

-- the same without a port
pub none-spelled_host : (s : Spelling) (text : List ℕ) → ((a : IpAddr) → ¬ (IsIpText text a)) → s.host text ≡ None
none-spelled_host s text none = none-told_host s text _ refl none
