-- What an equation of a seat's whole value tells.
use Rattle.std.proofs.Common.{◌≡◌, ℕ, ap, subst, sym}
use Rattle.mdl_visits.proofs.Common.{IsPlace, SeatState, TableId}

-- what the session knows and has there
pub mine : {s t : SeatState} → s ≡ t → s.me ≡ t.me
mine told = ap (λ (x : SeatState). x.me) told

-- which table it is at
pub table_of : {s t : SeatState} → s ≡ t → s.table ≡ t.table
table_of told = ap (λ (x : SeatState). x.table) told

-- a place of a seat's table is one of the table that it is at later
pub place_there : (place : ℕ) {table later : TableId} → later ≡ table → IsPlace table place → IsPlace later place
place_there place same is_place = subst (λ (t : TableId). IsPlace t place) (sym same) is_place
