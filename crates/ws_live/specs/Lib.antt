pub mod live
