-- What messages say that an end may await of the other; and every hold has a timer that runs or an answer that is
-- awaited.
use Rattle.std.specs.Prelude.{ℕ, Option, Some, None, Result, Ok, Err}
use Rattle.settings.specs.Configuration.{Configuration}
use Rattle.mtp3_codec.specs.declared.fault.MgmtFault.{MgmtFault}
use Rattle.mtp3_codec.specs.declared.management.Management.{Management}
use Rattle.mtp3_codec.specs.declared.management.Management.TheVariants.{ExtendedChangeoverOrder, ExtendedChangeoverAcknowledgement, ChangebackDeclaration, ChangebackAcknowledgement}
use Rattle.exchange_rules.specs.Messages.{link_with_code}
use Rattle.exchange_rules.specs.LastingHolds.{AllWillEnd}
use Rattle.pair_rules.specs.Pairs.{PairState}

-- ---- what a message says to the node with these settings, given the point that it comes from

-- of four kinds each names a link or a code
abbrev pub Kind : Type 0
Kind = Configuration → (point : ℕ) → Management → Option ℕ

-- the link that an order to change over is about, and the one that its answer is about
abbrev pub ordered : Kind
ordered c point (ExtendedChangeoverOrder slc number) = link_with_code c point slc
ordered c point _ = None

abbrev pub acknowledged : Kind
acknowledged c point (ExtendedChangeoverAcknowledgement slc number) = link_with_code c point slc
acknowledged c point _ = None

-- the code of a changeback declaration, and that of its answer
abbrev pub declared : Kind
declared c point (ChangebackDeclaration slc code) = Some code
declared c point _ = None

abbrev pub confirmed : Kind
confirmed c point (ChangebackAcknowledgement slc code) = Some code
confirmed c point _ = None

-- no other message says such a thing
abbrev pub named_in : Kind → Configuration → (point : ℕ) → Result Management MgmtFault → Option ℕ
named_in kind c point (Ok management) = kind c point management
named_in kind c point (Err fault) = None

-- ---- what is held

-- at both ends every hold has a timer that runs or an answer that is awaited, whether or not a message may be lost
pub record HoldInNoVain (p : PairState) : Type 0 where
  pub near : AllWillEnd p.near.exchange.node.parts
  pub far : AllWillEnd p.far.exchange.node.parts
