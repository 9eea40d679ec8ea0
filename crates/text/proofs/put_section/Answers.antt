use native.Mathlib.Omega.{arith}
use mathlib.Core.Path.{◌∙◌, ap, sym}
use lib.ListN.{length}
use Rattle.markers.specs.Markers.{marker_by}
use Rattle.text.specs.Work.{sections_from}
use Rattle.text.proofs.Bodies.{body_router, body_xdomain, body_regs, body_adapter, body_paths, body_usb4, body_nopaths, body_bad, device_four, put_as, put_nothing}
use Rattle.text.proofs.Sections.{put_adapter}
use Rattle.text.proofs.put_section.Goals as goal

pub put_device-requires : goal.put_device-requires
unfolding marker_by
put_device-requires c = (c.requires.0, omega (arith, c.requires.2, ap length (body_router c.args.line.now c.args.body.now (sections_from c.args.text.now c.args.next) _ _ (ap marker_by (sym c.in-Router.is) ∙ c.marker.ensures)), device_four 1 c.in-Router.domain c.in-Router.route (sections_from c.args.text.now c.args.next)))

pub put_device-requires-in-Xdomain : goal.put_device-requires-in-Xdomain
unfolding marker_by
put_device-requires-in-Xdomain c = (c.requires.0, omega (arith, c.requires.2, ap length (body_xdomain c.args.line.now c.args.body.now (sections_from c.args.text.now c.args.next) _ _ (ap marker_by (sym c.in-Xdomain.is) ∙ c.marker.ensures)), device_four 2 c.in-Xdomain.domain c.in-Xdomain.route (sections_from c.args.text.now c.args.next)))

pub put_dump-requires : goal.put_dump-requires
unfolding marker_by
put_dump-requires c = (c.requires.1, omega (arith, c.requires.2, ap length (body_regs c.args.line.now c.args.body.now (sections_from c.args.text.now c.args.next) (ap marker_by (sym c.in-Regs.is) ∙ c.marker.ensures))), omega (arith, c.requires.3, ap length (body_regs c.args.line.now c.args.body.now (sections_from c.args.text.now c.args.next) (ap marker_by (sym c.in-Regs.is) ∙ c.marker.ensures))))

pub bounds-out-k : goal.bounds-out-k
unfolding marker_by
bounds-out-k c = omega (arith, c.requires.2, ap length (body_adapter c.args.line.now c.args.body.now (sections_from c.args.text.now c.args.next) _ (ap marker_by (sym c.in-Adapter.is) ∙ c.marker.ensures)))

pub put_paths-requires : goal.put_paths-requires
unfolding marker_by
put_paths-requires c = (c.requires.1, omega (arith, c.requires.2, ap length (body_paths c.args.line.now c.args.body.now (sections_from c.args.text.now c.args.next) (ap marker_by (sym c.in-Paths.is) ∙ c.marker.ensures))), omega (arith, c.requires.3, ap length (body_paths c.args.line.now c.args.body.now (sections_from c.args.text.now c.args.next) (ap marker_by (sym c.in-Paths.is) ∙ c.marker.ensures))))

pub returns-in-Router : goal.returns-in-Router
unfolding marker_by
returns-in-Router c = put_as (body_router c.args.line.now c.args.body.now (sections_from c.args.text.now c.args.next) _ _ (ap marker_by (sym c.in-Router.is) ∙ c.marker.ensures)) c.put_device.ensures

pub returns-in-Xdomain : goal.returns-in-Xdomain
unfolding marker_by
returns-in-Xdomain c = put_as (body_xdomain c.args.line.now c.args.body.now (sections_from c.args.text.now c.args.next) _ _ (ap marker_by (sym c.in-Xdomain.is) ∙ c.marker.ensures)) c.put_device-in-Xdomain.ensures

pub returns-in-Regs : goal.returns-in-Regs
unfolding marker_by
returns-in-Regs c = put_as (body_regs c.args.line.now c.args.body.now (sections_from c.args.text.now c.args.next) (ap marker_by (sym c.in-Regs.is) ∙ c.marker.ensures)) c.put_dump.ensures

pub returns-in-Adapter : goal.returns-in-Adapter
unfolding marker_by
returns-in-Adapter c = put_as (body_adapter c.args.line.now c.args.body.now (sections_from c.args.text.now c.args.next) _ (ap marker_by (sym c.in-Adapter.is) ∙ c.marker.ensures)) (put_adapter _ _ _ _ _ (omega (arith, c.requires.2, ap length (body_adapter c.args.line.now c.args.body.now (sections_from c.args.text.now c.args.next) _ (ap marker_by (sym c.in-Adapter.is) ∙ c.marker.ensures)))) c.adapter_head.ensures)

pub returns-in-Paths : goal.returns-in-Paths
unfolding marker_by
returns-in-Paths c = put_as (body_paths c.args.line.now c.args.body.now (sections_from c.args.text.now c.args.next) (ap marker_by (sym c.in-Paths.is) ∙ c.marker.ensures)) c.put_paths.ensures

pub returns-in-Usb4 : goal.returns-in-Usb4
unfolding marker_by
returns-in-Usb4 c = put_nothing (body_usb4 c.args.line.now c.args.body.now (sections_from c.args.text.now c.args.next) (ap marker_by (sym c.in-Usb4.is) ∙ c.marker.ensures))

pub returns-in-NoPaths : goal.returns-in-NoPaths
unfolding marker_by
returns-in-NoPaths c = put_nothing (body_nopaths c.args.line.now c.args.body.now (sections_from c.args.text.now c.args.next) (ap marker_by (sym c.in-NoPaths.is) ∙ c.marker.ensures))

pub returns-in-Bad : goal.returns-in-Bad
unfolding marker_by
returns-in-Bad c = put_nothing (body_bad c.args.line.now c.args.body.now (sections_from c.args.text.now c.args.next) (ap marker_by (sym c.in-Bad.is) ∙ c.marker.ensures))
