pub mod SecondKeys
