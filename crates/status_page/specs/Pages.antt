-- Where the pages are.
use Rattle.std.specs.Prelude.{ℕ, List, if◌then◌else◌, bytes_eq, codes, Option, Some, None}
use Rattle.status_page.specs.declared.page.Page.{Page}
use Rattle.status_page.specs.declared.page.Page.TheVariants.{Status, State, Metrics}

-- the page at a path
abbrev pub page_at : List ℕ → Option Page
page_at path =
    if bytes_eq path (codes "/") then Some Status
    else if bytes_eq path (codes "/state.json") then Some State
    else if bytes_eq path (codes "/metrics") then Some Metrics
    else None
