-- The words of this crate for those above it, from one place.
pub use Rattle.mdl_core.specs.ChangeEvents.{holding_of}
pub use Rattle.mdl_core.specs.Changes.{admitting_if, altering, ending_lost, folding, freeing, has_unsettled_wait, is_ready_waiter, next_ready, redefining_at, serving}
unfoldable pub use Rattle.mdl_core.specs.Changes.{admitting_up_to}
pub use Rattle.mdl_core.specs.CoreCalls.{Makes, begin_wait_outcome, cause_in, change_definition_outcome, clone_causes, clone_ticket_outcome, downgrade_outcome, end_wait_outcome, first_cause, granted_unless_full, has_settled, is_needed, is_wait_at, key_of_outcome, kill_outcome, list_held_outcome, merge_causes, merge_outcome, poll_wait_outcome, read_definition_outcome, redefined_unless, redefining_fault, release_outcome, request_causes, resolve_outcome, search_deadlock_outcome, settle_timeout_outcome, tables_of_outcome, try_now_outcome, unpin_causes, unpin_outcome, upgrade_causes, upgrade_now_outcome, upgraded_if_free, victim_at, wait_of_outcome}
pub use Rattle.mdl_core.specs.CoreJoins.{Knows, SpeaksFor, locks_at}
pub use Rattle.mdl_core.specs.CoreSystems.{system_of}
pub use Rattle.mdl_core.specs.Cores.{Core, book_at, booking, comes_before, empty_core, has_defined_table, has_key, has_pin, has_session, is_in_use, key_at, pinning, places_in_key_order, placing_at, put_in_order, seat_at, seating, standing_at, table_places, unpinning, unused_place}
pub use Rattle.mdl_core.specs.Seats.{SeatView, beginning_wait, empty_seat, holding, is_settled_wait, is_unsettled_wait, ticket_of_wait, with_settled_wait, with_ticket_in, without_pin}
pub use Rattle.mdl_core.specs.Ties.{Awaits, HasGrantedTicket, IsTied, in_book_of}
