-- How the program ends by what was read of its words.
use Rattle.std.proofs.Common.{◌≡◌, ◌∙◌, ℕ, Bool, false, List, Option, Result, Ok, Err, IfErr, IfOk, IsTrue, inl, inr, sym, true≢false}
use Rattle.std.specs.Prelude.{◌↔◌, IsOk}
use Rattle.std.specs.Io.KnownBytes.{Keeps}
use Rattle.clap.specs.Words.{kind_of}
use Rattle.clap.specs.declared.error.Error.{Error}
use Rattle.clap.specs.declared.error.kind.ErrorKind.TheVariants as kinds
use Rattle.mdl_lines.specs.declared.fault.Fault.{Fault}
use Rattle.mdl_program.specs.declared.program.Run.{Run}
use Rattle.mdl_program.specs.Runs.{EndsAs, end_status}
use Rattle.mdlsim.specs.CommandLine.{Asks}
use Rattle.mdlsim.specs.Ends.{EndsByWords}

-- words that are refused ask for no run, unless memory ran out
pub ends_by_words : (words : List (List ℕ)) (asked : Result Run Error) (lacks : Bool) (status : ℕ) (input old new errors told : Option (List ℕ)) → lacks ≡ false →
    IfOk asked (λ run. Asks words run) → ((run : Run) → Asks words run → IfErr asked (λ e. kind_of e ≡ kinds.OutOfMemory)) →
    IfErr asked (λ refusal. IsTrue lacks ↔ (kind_of refusal ≡ kinds.OutOfMemory)) →
    IfOk asked (λ run. (end : Result (Unit {0}) Fault) × EndsAs run input old new end × (status ≡ end_status end) × (IsOk end → Keeps errors told)) →
    IfErr asked (λ refusal. (status ≡ 2) × Keeps old new) → EndsByWords words status input old new errors told
ends_by_words words (Ok run) lacks status input old new errors told has asks taken says (end, ends, is, quiet) refused = inl (run, end, asks, ends, is, quiet)
ends_by_words words (Err refusal) lacks status input old new errors told has asks taken says ran refused =
    inr (inl (refused.0, (λ run asks. true≢false (sym (says.1 (taken run asks)) ∙ has)), refused.1))
