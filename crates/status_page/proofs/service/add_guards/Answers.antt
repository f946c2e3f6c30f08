-- Each field is after those before it.
use Rattle.status_page.proofs.Fields.{four_behind}
use Rattle.status_page.proofs.service.add_guards.Goals as goal

pub returns-clause-fields : goal.returns-clause-fields
returns-clause-fields c =
    rw (
      c.in_ok-add_header-4.ensures.headers,
      c.in_ok-add_header-3.ensures.headers,
      c.in_ok-add_header-2.ensures.headers,
      c.in_ok-add_header.ensures.headers,
      c.from_static.ensures,
      c.from_static-2.ensures,
      c.from_static-3.ensures,
      c.from_static-4.ensures,
      c.from_static-5.ensures,
    )
    (four_behind _ _ _ _ _)
