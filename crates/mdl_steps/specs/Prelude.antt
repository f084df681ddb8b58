-- What the definitions of this crate cite of the library, of the crates below and of its own types, from one place.
pub use Rattle.std.specs.List.{count_by, filter, find, list_all, list_any, position_or_len}
pub use Rattle.std.specs.Option.{is_some, option_and_then, option_map, option_map_or, option_to_list}
pub use Rattle.atomic_table.specs.Table.{Act, Allows, Me, Splits, State, Step, Valid, carried_after, chain, gives, homes_after, keeps, opening, put_back, rest, step, takes}
pub use Rattle.mdl_book.specs.Books.{admitting, any_obtrusive, cancelling, changing, empty_book, enqueueing, granting, has_obtrusive, has_tickets, lock_kind, redefining, removing}
pub use Rattle.mdl_book.specs.FastTickets.{CountsFastTickets, CoversFastTickets, can_be_granted, is_of_class, may_stand}
pub use Rattle.mdl_book.specs.Granting.{goes_first, is_compatible, is_grantable, is_lawful, overtakes, stands_beside}
pub use Rattle.mdl_book.specs.Tickets.{in_mode, is_ticket, ticket_of, with_mode, without}
pub use Rattle.mdl_book.specs.declared.book_view.BookView.{BookView}
pub use Rattle.mdl_book.specs.declared.ticket.Ticket.{Ticket}
pub use Rattle.mdl_defs.specs.VersionedDefinitions.{MayStand, nothing_yet, standing_after, standing_fault}
pub use Rattle.mdl_defs.specs.declared.reading.Reading.{Reading}
pub use Rattle.mdl_key.specs.Keys.{global_key}
pub use Rattle.mdl_key.specs.Words.{IsAtLeast, KeyName, all_modes, clashes, class_of, is_at_least, is_mode_of, is_obtrusive, key_eq, kind_of}
pub use Rattle.mdl_key.specs.declared.known_key.KnownKey.{KnownKey}
pub use Rattle.mdl_key.specs.declared.mode.Mode.{Mode}
pub use Rattle.mdl_key.specs.declared.namespace.Kind.{Kind}
pub use Rattle.mdl_system.specs.Strength.{downgrades}
pub use Rattle.mdl_word.specs.Words.{Encodes, all_but_flags, bit, counts_of, encode, flags_alone, increment_of, obtrusive_flag, one_in, slow_flag}
pub use lib.ListN.{get_elem?}
pub use mathlib.Core.Option.{Option as Maybe, none, some, some-injective, some-ne-none}
pub use Rattle.mdl_steps.specs.declared.deed.Deed.{Deed}
pub use Rattle.mdl_steps.specs.declared.deed.Deed.TheVariants.{Alter, Gain, Lose}
pub use Rattle.mdl_steps.specs.declared.slot.Slot.{Slot}
pub use Rattle.mdl_steps.specs.declared.view.Ask.{Ask}
pub use Rattle.mdl_steps.specs.declared.view.Keys.{Keys}
pub use Rattle.mdl_steps.specs.declared.view.LatchRecord.{LatchRecord}
pub use Rattle.mdl_steps.specs.declared.view.SessionTicket.{SessionTicket}
pub use Rattle.mdl_steps.specs.declared.view.Spare.{Spare}
pub use Rattle.mdl_steps.specs.declared.view.View.{View}
pub use Rattle.mdl_steps.specs.declared.wait_word.Loss.{Loss}
pub use Rattle.mdl_steps.specs.declared.wait_word.Loss.TheVariants.{Killed, Timeout, Victim}
