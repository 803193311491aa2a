mod Torn
mod Images
mod Whole
mod Grown
mod Telling
mod DiskRuns
mod AnyRun
