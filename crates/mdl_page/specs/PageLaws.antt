-- Laws of all pages.
use Rattle.std.specs.Prelude.{◌≡◌, ◌==◌, ℕ, Bool, true, not, List}
use Rattle.std.specs.List.{list_all}
use Rattle.mdl_page.specs.Pages.{FactsView, data_text, in_text}

-- a byte that begins no markup: not `<`
abbrev pub begins_no_markup : ℕ → Bool
begins_no_markup byte = not (byte == 60)

-- none of the script's text does
abbrev pub TextHasNoMarkup : Type 0
TextHasNoMarkup = (text : List ℕ) → list_all begins_no_markup (in_text text) ≡ true

-- none of the data does
abbrev pub DataHasNoMarkup : Type 0
DataHasNoMarkup = (lines : List FactsView) → list_all begins_no_markup (data_text lines) ≡ true
