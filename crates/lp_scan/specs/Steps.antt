-- The contracts of a scan in place.
use Rattle.std.specs.Prelude.{◌≡◌, ◌<◌, Bool, true, false, List, length, take, Option, Some, None}
use Rattle.lp_table.specs.declared.table.WarmTable.{WarmTable}
use Rattle.lp_scan.specs.declared.scanning.Scan.{Scan}
use Rattle.lp_scan.specs.declared.scanning.Scan.TheVariants as scans
use Rattle.lp_scan.specs.Scan.{Scanned}

-- the table with what another has for each row
abbrev pub with_rows_of : WarmTable → WarmTable → WarmTable
with_rows_of new old = record old {
  scales = record old.scales { rows = new.scales.rows };
  rows = new.rows;
  cuts = record old.cuts { rows = new.cuts.rows };
  bounds = new.bounds;
  basis = record old.basis { places = new.basis.places };
}

-- the new list is the old one with more behind
abbrev pub Begins : {A : Type 0} → List A → List A → Type 0
Begins old new = take (length old) new ≡ old

-- the table grows by rows behind those that it had, and is the same otherwise
pub record Grows (old new : WarmTable) : Type 0 where
  pub tail : new ≡ with_rows_of new old
  pub rows : Begins old.rows new.rows
  pub cuts : Begins old.cuts.rows new.cuts.rows
  pub scales : Begins old.scales.rows new.scales.rows
  pub lows : Begins old.bounds.lows new.bounds.lows
  pub ups : Begins old.bounds.ups new.bounds.ups
  pub has_low : Begins old.bounds.has_low new.bounds.has_low
  pub has_up : Begins old.bounds.has_up new.bounds.has_up
  pub places : Begins old.basis.places new.basis.places

-- whether there is a new table; where it is absent the old one stays
abbrev pub Asks : Bool → Option WarmTable → WarmTable → WarmTable → Type 0
Asks true made old new = made ≡ Some new
Asks false made old new = (made ≡ None) × (new ≡ old)

-- the scan leaves the new table
abbrev pub Scans : Scan → Scanned → WarmTable → WarmTable → Type 0
Scans scans.Adds s old new = (s.stopped ≡ false) × (new ≡ s.table) × (length old.rows < length new.rows)
Scans scans.Rests s old new = (s.stopped ≡ false) × (new ≡ s.table) × (length new.rows ≡ length old.rows)
Scans scans.Stops s old new = (s.stopped ≡ true) × (new ≡ s.table)
