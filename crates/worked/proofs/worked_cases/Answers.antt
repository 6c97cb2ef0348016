-- What is left to show of `worked_cases`.
use Rattle.std.proofs.Common.{refl}
use Rattle.bits.specs.Bits.{bit_at}
use Rattle.sets.specs.Packing.{value_of, pack}
use Rattle.sets.specs.Search.{first_from, last_to, count_to, kth_to}
use Rattle.sets.specs.Sets.{is, next_of, previous_of, rank_of, select_of}
use Rattle.sets.specs.Made.{set_by}
use Rattle.list.specs.Decoding.{is_among}
use Rattle.list.specs.Lawful.{rises}
use Rattle.list.specs.Filling.{numbers_of}
use Rattle.zombit.specs.Blocks.{bay_in}
use Rattle.zombit.specs.Filling.{uniform_bit, marked_bit, mixed_bit}
use Rattle.pioneer.specs.Runs.{place_of, in_run}
use Rattle.round.specs.Machine.{common, larger, walk, next_from}
use Rattle.round.specs.Sheets.{sheet_from}
use Rattle.listing.specs.Listings.{play}
use Rattle.worked.proofs.worked_cases.Goals as goal

pub returns : goal.returns
unfolding bit_at value_of pack numbers_of uniform_bit marked_bit mixed_bit first_from last_to count_to kth_to is next_of previous_of rank_of select_of set_by is_among rises bay_in place_of in_run common larger walk next_from sheet_from play
returns c = search refl
