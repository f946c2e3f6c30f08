-- What a document says of settings. Its keys are read in their order, and the first fault among them is the
-- document's; keys of other names are ignored.
use Rattle.std.specs.Prelude.{ℤ, Bool, Result, Ok}
use Rattle.toml.specs.Data.{Members}
use Rattle.settings.specs.declared.key.Key.TheVariants as key
use Rattle.settings_file.specs.declared.fault.SettingsFault.{SettingsFault}
use Rattle.settings_file.specs.declared.document.Numbers.{Numbers}
use Rattle.settings_file.specs.declared.document.Services.{Services}
use Rattle.settings_file.specs.Versions.{has_joined, has_extensions, has_additions}
use Rattle.settings_file.specs.Shapes.{and_then}
use Rattle.settings_file.specs.NodeKeys.{integer_at, point_at, integers_if_any_at, truth_at}
use Rattle.settings_file.specs.Written.{Written}
use Rattle.settings_file.specs.Entries.{sets_at, links_at, destinations_at, titles_at}
use Rattle.settings_file.specs.Ticks.{clock_of}
use Rattle.settings_file.specs.Timers.{timers_at}

-- the numbers that a file begins with
unfoldable pub numbers_at : Members → Result Numbers SettingsFault
numbers_at t =
    and_then (integer_at key.Version t) (λ version.
    and_then (point_at (has_additions version) key.Own t) (λ own.
    and_then (integer_at key.Network t) (λ network.
    and_then (integer_at key.Window t) (λ window.
    and_then (integer_at key.Pool t) (λ pool.
    Ok (record { version = version; own = own; network = network; window = window; pool = pool }))))))

-- what a file asks for, as far as its version has these keys: that extended unitdata are relayed, that a test of a
-- subsystem is answered, that it is told where a user part isn't here, that links outlive outages of their peers'
-- processors, and that they send Out of Service before Alignment; and that orders to change over go out by any route
unfoldable pub services_at : (has_extensions has_additions : Bool) → Members → Result Services SettingsFault
services_at extensions additions t =
    and_then (truth_at extensions key.ExtendedUnitdata t) (λ extended_unitdata.
    and_then (truth_at extensions key.SubsystemTests t) (λ subsystem_tests.
    and_then (truth_at extensions key.UserPartUnavailable t) (λ user_part_unavailable.
    and_then (truth_at extensions key.ProcessorOutage t) (λ processor_outage.
    and_then (truth_at extensions key.OutOfService t) (λ out_of_service.
    and_then (truth_at additions key.ChangeoverByAnyRoute t) (λ by_any_route.
    Ok (record {
      extended_unitdata = extended_unitdata;
      subsystem_tests = subsystem_tests;
      user_part_unavailable = user_part_unavailable;
      processor_outage = processor_outage;
      out_of_service = out_of_service;
      changeover_by_any_route = by_any_route;
    })))))))

-- what a document says: the version of its format, and settings
pub record Document : Type 0 where
  pub version : ℤ
  pub settings : Written

unfoldable pub document : Members → Result Document SettingsFault
document t =
    and_then (numbers_at t) (λ numbers.
    and_then (integers_if_any_at (has_additions numbers.version) key.Users t) (λ users.
    and_then (integers_if_any_at (has_additions numbers.version) key.Subsystems t) (λ subsystems.
    and_then (services_at (has_extensions numbers.version) (has_additions numbers.version) t) (λ services.
    and_then (timers_at (has_extensions numbers.version) (clock_of (has_additions numbers.version) t) t) (λ timers.
    and_then (sets_at (has_additions numbers.version) t) (λ sets.
    and_then (links_at (has_extensions numbers.version) (has_additions numbers.version) t) (λ links.
    and_then (destinations_at (has_joined numbers.version) (has_additions numbers.version) t) (λ destinations.
    and_then (titles_at (has_extensions numbers.version) (has_additions numbers.version) t) (λ titles.
    Ok (record {
      version = numbers.version;
      settings = record {
        own = numbers.own;
        network = numbers.network;
        window = numbers.window;
        pool = numbers.pool;
        users = users;
        subsystems = subsystems;
        extended_unitdata = services.extended_unitdata;
        subsystem_tests = services.subsystem_tests;
        user_part_unavailable = services.user_part_unavailable;
        processor_outage = services.processor_outage;
        out_of_service = services.out_of_service;
        changeover_by_any_route = services.changeover_by_any_route;
        timers = timers;
        sets = sets;
        links = links;
        destinations = destinations;
        titles = titles;
      };
    }))))))))))
