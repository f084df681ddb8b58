-- Sets of modes as numbers, after MySQL 5.7: `MDL_lock::bitmap_t` of sql/mdl.cc, in which bit n stands for the mode at place n
-- in the order of the modes.
use Rattle.std.specs.Prelude.{ℕ, ◌^◌, Bool, ◌==◌, List, map, sum}
use Rattle.std.specs.Int.{bit_at}
use Rattle.mdl_key.specs.declared.mode.Mode.{Mode}
use Rattle.mdl_key.specs.Modes.{mode_rank}

-- the bit map of a set of modes, each listed once
abbrev pub bit_map : List Mode → ℕ
bit_map modes = sum (map (λ mode. 2 ^ mode_rank mode) modes)

-- whether the bit of a mode is set
abbrev pub has_bit : ℕ → Mode → Bool
has_bit modes mode = bit_at modes (mode_rank mode) == 1
