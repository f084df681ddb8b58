-- The words of this crate for those above it, from one place.
pub use Rattle.mdl_client_table.specs.Boxes.{trimmed}
pub use Rattle.mdl_client_table.specs.Forms.{IsTableFault, table_of}
pub use Rattle.mdl_client_table.specs.Tables.{RowText, TableText}
