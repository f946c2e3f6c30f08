-- The lengths and pointers of the parts of a message, of which the first pointer is this (Q.713 §2.3).
use Rattle.std.specs.Prelude.{◌≡◌, ℕ, ◌+◌, length}
use Rattle.sccp_codec.specs.declared.writing.Layout.{Layout}
use Rattle.sccp_codec.specs.Messages.{address_octets, PartsValue}

pub record LaysOut (first : ℕ) (parts : PartsValue) (layout : Layout) : Type 0 where
  pub called : layout.called ≡ length (address_octets 0 parts.called)
  pub calling : layout.calling ≡ length (address_octets 0 parts.calling)
  pub carried : layout.carried ≡ length parts.data
  pub calling_pointer : layout.calling_pointer ≡ first + length (address_octets 0 parts.called)
  pub data_pointer : layout.data_pointer
      ≡ first + length (address_octets 0 parts.called) + length (address_octets 0 parts.calling)
