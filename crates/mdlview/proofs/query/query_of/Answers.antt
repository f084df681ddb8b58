-- The query that is written is the defined one.
use Rattle.std.proofs.Common.{◌≡◌, ap, sym}
use Rattle.mdlview.specs.Queries.{query_text}
use Rattle.mdlview.proofs.query.query_of.Goals as goal

pub returns-in-MySql : goal.returns-in-MySql
returns-in-MySql c = ap query_text (sym c.in-MySql.is)

pub returns-in-MariaDb : goal.returns-in-MariaDb
returns-in-MariaDb c = ap query_text (sym c.in-MariaDb.is)
