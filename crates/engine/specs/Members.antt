-- The ghost members of a map of live entries as one record, which a clause writes `M.LiveMap`.
pub use Rattle.engine.specs.declared.live_map.LiveMap.{Ghosts as MapOf}
