-- The words of this crate for those above it, from one place.
pub use Rattle.mdl_lines.specs.Devices.{AppendsPart, LeavesWritten}
pub use Rattle.mdl_lines.specs.Faults.{IsFaultOf, MayEnd, fault_status, fault_text, line_error_name}
pub use Rattle.mdl_lines.specs.Lines.{is_blank, line_at, line_in, lines_of, only, same_text, words_of}
pub use Rattle.mdl_lines.specs.ScriptLines.{all_said, is_comment, said_before, said_by, script_by}
pub use Rattle.mdl_lines.specs.Sessions.{IsScriptSession, decimal_value, is_digit, session_of}
