use Rattle.std.proofs.Common.{◌≡◌, ◌<◌, length, arith, rules}
use Rattle.std.proofs.lemmas.List.Sums.{AllPass-from_list_all}
use Rattle.proto.proofs.stats.StatsText.with_gauges.Goals as goal

pub with-requires : goal.with-requires
with-requires c =
    let all : length c.gauge_names-gauge-items.result ≡ 47 = search rules in
    let within : c.loop-gauge.gauge-index < length c.gauge_names-gauge-items.result = omega (arith, all, c.loop-gauge-test.true) in
    record {
      name = AllPass-from_list_all _ c.gauge_names-gauge-items.result (c.gauge_names-gauge-items.ensures c.loop-gauge.text)
          c.loop-gauge.gauge-index _ within;
    }
