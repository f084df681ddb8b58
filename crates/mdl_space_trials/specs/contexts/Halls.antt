-- Contexts of several sessions over one lock space, that of one thread.
use Rattle.std.specs.Prelude.{◌≡◌, ℕ, ◌+◌, List, [], ◌∷◌}
use Rattle.mdl_core.specs.Words.{Core}
use Rattle.mdl_space.specs.CoreMembers.{core_space}
use Rattle.mdl_context.specs.Contexts.{ContextView, Attends}

-- the contexts are those of consecutive sessions, numbered from `first` on, and the space serves each of them
abbrev pub AreServed : Core → ℕ → List ContextView → Type 0
AreServed space first [] = Unit
AreServed space first (context ∷ contexts) =
    (context.who ≡ first) × Attends core_space space context × AreServed space (first + 1) contexts
