-- The order in which DDL and LOCK TABLES request the locks of their keys.
use Rattle.std.specs.Prelude.{◌≡◌, ◌↔◌, List, AllPairs, Contains}
use Rattle.std.specs.declared.cmp.Ordering.TheVariants.{Less}
use Rattle.mdl_key.specs.Keys.{KeyName, key_cmp}
use Rattle.mdl_rows.specs.KeyOrder.{in_key_order}

-- one key comes before another
abbrev pub KeyComesBefore : KeyName → KeyName → Type 0
KeyComesBefore key later = key_cmp key later ≡ Less

-- keys in key order are the same keys, each before all that follow it, and so each once
abbrev pub KeysStandInOrder : Type 0
KeysStandInOrder =
    (keys : List KeyName) → AllPairs KeyComesBefore (in_key_order keys) × ((key : KeyName) → Contains (in_key_order keys) key ↔ Contains keys key)
