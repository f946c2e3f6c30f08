-- The response to each request.
use Rattle.std.specs.Prelude.{ℕ, List, [], ◌∷◌, ◌++◌, codes}
use Rattle.http1.specs.Fields.{Header}
use Rattle.status_page.specs.declared.page.Page.{Page}
use Rattle.status_page.specs.declared.page.Page.TheVariants.{Status, State, Metrics}
use Rattle.status_page.specs.declared.answer.Answer.{Answer}
use Rattle.status_page.specs.declared.answer.Answer.TheVariants.{Shown, BadRequest, Forbidden, NotFound, NotAllowed}

abbrev pub status_of : Answer → ℕ
status_of (Shown page) = 200
status_of BadRequest = 400
status_of Forbidden = 403
status_of NotFound = 404
status_of NotAllowed = 405

-- the kind of text of a page; metrics are Prometheus' text format 0.0.4
abbrev pub content_type : Page → List ℕ
content_type Status = codes "text/html; charset=utf-8"
content_type State = codes "application/json"
content_type Metrics = codes "text/plain; version=0.0.4; charset=utf-8"

-- for a page, and for a text that says why there is none
abbrev pub content_type_of : Answer → List ℕ
content_type_of (Shown page) = content_type page
content_type_of BadRequest = codes "text/plain; charset=utf-8"
content_type_of Forbidden = codes "text/plain; charset=utf-8"
content_type_of NotFound = codes "text/plain; charset=utf-8"
content_type_of NotAllowed = codes "text/plain; charset=utf-8"

-- nothing is kept, is taken for another kind, is read by other sites, or comes from anywhere else
abbrev pub guards : List Header
guards =
    (codes "cache-control", codes "no-store")
    ∷ (codes "x-content-type-options", codes "nosniff")
    ∷ (codes "cross-origin-resource-policy", codes "same-origin")
    ∷ (codes "content-security-policy", codes "default-src 'none'; script-src 'unsafe-inline'; style-src 'unsafe-inline'; connect-src 'self'; base-uri 'none'; form-action 'none'; frame-ancestors 'none'")
    ∷ []

-- which methods there are, if another was used
abbrev pub allowed : Answer → List Header
allowed (Shown page) = []
allowed BadRequest = []
allowed Forbidden = []
allowed NotFound = []
allowed NotAllowed = (codes "allow", codes "GET, HEAD") ∷ []

abbrev pub fields_of_answer : Answer → List Header
fields_of_answer answer = (codes "content-type", content_type_of answer) ∷ guards ++ allowed answer

-- the page, or why there is none
abbrev pub body_of_answer : (Page → List ℕ) → Answer → List ℕ
body_of_answer content (Shown page) = content page
body_of_answer content BadRequest = codes "400: one Host field, and a target without a host\n"
body_of_answer content Forbidden = codes "403: ask for the page by its address or by localhost\n"
body_of_answer content NotFound = codes "404: there are /, /metrics and /state.json\n"
body_of_answer content NotAllowed = codes "405: the page is only read, by GET\n"
