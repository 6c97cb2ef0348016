-- What blocks have that were passed over.
use Rattle.std.specs.Prelude.{◌≡◌, ◌*◌, ◌≤◌}
use Rattle.sets.specs.Search.{count_to}
use Rattle.zombit.specs.Meant.{blocks, bays, bits_before_block}
use Rattle.zombit.specs.declared.index.Zombit.{Zombit}
use Rattle.zombit.specs.declared.passed.Passed.{Passed}

-- there are so many blocks, and what they have is counted
pub record IsPassed (z : Zombit) (p : Passed) : Type 0 where
  pub within : p.block ≤ blocks z
  pub bits : p.bits ≡ bits_before_block z p.block
  pub members : p.members ≡ count_to (bays z) (p.block * z.blocks.size)
