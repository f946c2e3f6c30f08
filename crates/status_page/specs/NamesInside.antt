-- What the names of a page are in its code.
use Rattle.std.specs.Prelude.{string_bytes}
use Rattle.status_page.specs.declared.names.PageNames.TheInside.{Inside}
use Rattle.status_page.specs.Names.{Names}

abbrev pub names_in : Inside → Names
names_in n = record { address = string_bytes n.address; local = string_bytes n.local; is_open = n.is_open }
