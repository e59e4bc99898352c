-- How a coordinator holds what it knows.
use Rattle.std.specs.Prelude.{◌<◌, ◌≤◌, length}
use Rattle.std.specs.FinMap as map_of
use Rattle.topology_coord.specs.declared.coord.Coord.TheInside.{Inside}
use Rattle.topology_coord.specs.Coordination.{Coordination, HaveEither}

-- what a coordinator's fields are seen as
abbrev pub coordination_of : Inside → Coordination
coordination_of a = record {
  owners = a.owners;
  aim = a.aim;
  ever = a.ever;
  installed = a.installed;
  newest = a.newest;
  before = a.before;
}

-- a segment is to have one to four owners, some node lives, topologies are numbered from 1 on, and each live node has installed the
-- newest or the one before it
pub record IsCoord (a : Inside) : Type 0 where
  pub some_owner : 1 ≤ a.owners
  pub few_owners : a.owners ≤ 4
  pub some_live : 0 < length (map_of.keys a.installed)
  pub numbered : 1 ≤ a.newest.id
  pub known : HaveEither a.installed a.newest.id a.before.id
