-- What each request comes to.
use Rattle.std.specs.Prelude.{ℕ, List, [], ◌∷◌, ◌||◌, is_some, if◌then◌else◌, bytes_eq, codes, Option, Some, None}
use Rattle.http_header.specs.FieldValue.{FieldValue}
use Rattle.http_header.specs.HeaderMap.{get_all}
use Rattle.http_uri.specs.Uri.{uri_scheme, uri_authority, uri_path}
use Rattle.http.specs.declared.request.Parts.{Parts}
use Rattle.status_page.specs.declared.page.Page.{Page}
use Rattle.status_page.specs.declared.answer.Answer.{Answer}
use Rattle.status_page.specs.declared.answer.Answer.TheVariants.{Shown, BadRequest, Forbidden, NotFound, NotAllowed}
use Rattle.status_page.specs.Pages.{page_at}
use Rattle.status_page.specs.Names.{Names, is_own}

-- a page is only read
abbrev pub answer_about : Option Page → (method : List ℕ) → Answer
answer_about None method = NotFound
answer_about (Some page) method =
    if bytes_eq method (codes "GET") || bytes_eq method (codes "HEAD") then Shown page else NotAllowed

-- what a request of the page's own host gets by its path and its method
abbrev pub answer_at : (path method : List ℕ) → Answer
answer_at path method = answer_about (page_at path) method

-- the value of a field that occurs once
abbrev pub lone : List FieldValue → Option (List ℕ)
lone [] = None
lone (value ∷ []) = Some value.bytes
lone (value ∷ next ∷ more) = None

-- what a request for this host gets: it names one, and that is the page's
abbrev pub answer_by : Names → (host : Option (List ℕ)) → (path method : List ℕ) → Answer
answer_by names None path method = BadRequest
answer_by names (Some host) path method = if is_own names host then answer_at path method else Forbidden

-- what a request with this head gets; a target that names a host itself is refused (RFC 9112 §3.2.2 lets it count in
-- place of the Host field)
abbrev pub answer_to : Names → Parts → Answer
answer_to names head =
    if is_some (uri_scheme head.uri) || is_some (uri_authority head.uri)
    then BadRequest
    else answer_by names (lone (get_all head.headers (codes "host"))) (uri_path head.uri) head.method
