-- What each page of a node holds.
use Rattle.std.specs.Prelude.{ℕ, List, ◌++◌}
use Rattle.json.specs.Print.{print}
use Rattle.exchange_rules.specs.State.{QueueKind, State}
use Rattle.status_page.specs.declared.page.Page.{Page}
use Rattle.status_page.specs.declared.page.Page.TheVariants as page
use Rattle.status_page.specs.declared.text.style.TheConstants.{STYLE}
use Rattle.status_page.specs.declared.text.outline.TheConstants.{OUTLINE}
use Rattle.status_page.specs.declared.text.measures.TheConstants.{MEASURES}
use Rattle.status_page.specs.declared.text.drawing.TheConstants.{DRAWING}
use Rattle.status_page.specs.declared.text.asking.TheConstants.{ASKING}
use Rattle.status_page.specs.Facts.{NodeFacts}
use Rattle.status_page.specs.Metrics.{metrics_text}
use Rattle.status_page.specs.States.{state_tokens}

-- the page that a person reads: its style, what is on it, and its script, which never change
unfoldable pub status_text : List ℕ
status_text = STYLE.now ++ OUTLINE.now ++ MEASURES.now ++ DRAWING.now ++ ASKING.now

-- the octets of each page: `/` never changes, `/state.json` is the print of its tokens, and `/metrics` has a line for
-- each sample
abbrev pub page_text : {Q : Type 0} → QueueKind Q → State Q → NodeFacts → Page → List ℕ
page_text q s f page.Status = status_text
page_text q s f page.State = print (state_tokens q s f)
page_text q s f page.Metrics = metrics_text q s f
