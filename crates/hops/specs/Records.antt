-- Document 01, the list of hop records: a single walk's hops as records. Assumes nothing.
use Rattle.std.specs.Prelude.{ℕ, zero, suc, ◌+◌, ◌*◌, ◌-◌, ◌/◌, ◌%◌, cond, List, ◌++◌, map, ltb, length, drop, get_or, set, Option, None, Some}
use Rattle.refusal.specs.Outcome.{Outcome, refused, value}
use Rattle.tables.specs.Rows.{EntryRow}
use Rattle.hops.specs.declared.Hop.{Hop}

-- place, in adapter, in HopID, out adapter, out HopID
unfoldable pub record_of : EntryRow → Hop
record_of e = record { place = e.device; in_adapter = e.adapter; in_hop = e.in_hop; out_adapter = e.out_adapter; out_hop = e.out_hop }

unfoldable pub records_needed : List EntryRow → ℕ
records_needed hs = length hs

-- a path's hops, and then the records that stood there
unfoldable pub with_records : List EntryRow → List Hop → List Hop
with_records hs old = map record_of hs ++ drop (length hs) old

-- the records as they were, but where a path is answered
unfoldable pub records_by : Outcome (Option (List EntryRow)) → List Hop → List Hop
records_by (refused n vs) old = old
records_by (value None) old = old
records_by (value (Some hs)) old = cond (ltb (length old) (records_needed hs)) old (with_records hs old)

-- the record of hop i of a path's result words: a path word, then two words a hop; a place stands below the kind, 10
unfoldable pub hop_at : List ℕ → ℕ → Hop
hop_at ws i = record {
  place = get_or ws (1 + 2 * i) 0 / 65536 - 10 * 4096;
  in_adapter = get_or ws (1 + 2 * i) 0 / 256 % 256;
  in_hop = get_or ws (2 + 2 * i) 0 / 65536;
  out_adapter = get_or ws (1 + 2 * i) 0 % 256;
  out_hop = get_or ws (2 + 2 * i) 0 % 65536;
}

-- the first n records are those of the words, and the others as they were
unfoldable pub filled : List ℕ → ℕ → List Hop → List Hop
filled ws zero l = l
filled ws (suc i) l = set (filled ws i l) i (hop_at ws i)
