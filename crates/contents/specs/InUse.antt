-- What `Regions` shows.
use Rattle.std.specs.Prelude.{List}
use Rattle.contents.specs.declared.region.Region.{Region}
use Rattle.contents.specs.declared.regions.Regions.{Regions}

-- the regions that are in use
abbrev pub regions_of : Regions → List Region
regions_of regions = regions.items.items
