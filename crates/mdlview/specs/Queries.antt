-- The queries that print the rows of a server which `mdlview` reads.
use Rattle.std.specs.Prelude.{ℕ, List, [], ◌∷◌, ◌++◌, codes}
use Rattle.mdlview.specs.declared.asked.Server.{Server}
use Rattle.mdlview.specs.declared.asked.Server.TheVariants.{MySql, MariaDb}

-- a line, with the line feed at its end
abbrev pub line_of : List ℕ → List ℕ
line_of text = text ++ 10 ∷ []

-- the locks of a server, each with its thread's connection, but those of the one that asks
abbrev pub locks_query : List ℕ
locks_query =
    line_of (codes "SELECT m.OBJECT_TYPE, m.OBJECT_SCHEMA, m.OBJECT_NAME,")
    ++ line_of (codes "  m.LOCK_TYPE, m.LOCK_DURATION, m.LOCK_STATUS, m.OWNER_THREAD_ID,")
    ++ line_of (codes "  t.PROCESSLIST_ID, t.PROCESSLIST_USER AS USER,")
    ++ line_of (codes "  t.PROCESSLIST_HOST AS HOST, t.PROCESSLIST_COMMAND AS COMMAND,")
    ++ line_of (codes "  t.PROCESSLIST_TIME AS TIME, LEFT(t.PROCESSLIST_INFO, 100) AS INFO,")
    ++ line_of (codes "  x.TRX_STARTED")
    ++ line_of (codes "FROM performance_schema.metadata_locks m")
    ++ line_of (codes "LEFT JOIN performance_schema.threads t")
    ++ line_of (codes "  ON t.THREAD_ID = m.OWNER_THREAD_ID")
    ++ line_of (codes "LEFT JOIN (")
    ++ line_of (codes "  SELECT trx_mysql_thread_id AS ID, MIN(trx_started) AS TRX_STARTED")
    ++ line_of (codes "  FROM information_schema.INNODB_TRX")
    ++ line_of (codes "  WHERE trx_mysql_thread_id > 0")
    ++ line_of (codes "  GROUP BY trx_mysql_thread_id) x")
    ++ line_of (codes "  ON x.ID = t.PROCESSLIST_ID")
    ++ line_of (codes "WHERE t.PROCESSLIST_ID IS NULL OR t.PROCESSLIST_ID <> CONNECTION_ID()")
    ++ line_of (codes "ORDER BY t.PROCESSLIST_TIME DESC, m.OBJECT_INSTANCE_BEGIN")

-- MySQL and MariaDB take the same
abbrev pub query_text : Server → List ℕ
query_text MySql = locks_query
query_text MariaDb = locks_query
